use Rattle.cluster_seats.specs.Seats.{nodes_in}
use Rattle.cluster_steps.proofs.NodeStep.{hears, ignores}
use Rattle.cluster_steps.proofs.node_step.to_node.Goals as goal

pub returns-in_ok-heard : goal.returns-in_ok-heard
returns-in_ok-heard g c =
    hears (nodes_in c.args.seats.now) (nodes_in c.heard.new.seats) _ _ c.args.book.now c.heard.new.book c.args.n c.args.from c.in-Some.memory c.args.message.now c.requires.there c.in-Some.ensures c.in_ok-heard.ensures

pub returns-in_default : goal.returns-in_default
returns-in_default g c = ignores (nodes_in c.args.seats.now) _ c.args.book.now c.args.n c.args.from c.args.message.now c.requires.there c.in_default.ensures
