use Rattle.std.proofs.Common.{refl}
use Rattle.tx_coord.specs.State.{State}
use Rattle.tx_coord.specs.Rules.{heard}
use Rattle.cluster_seats.specs.Seats.{nodes_in}
use Rattle.cluster_steps.proofs.NodeStep.{heard_makes, steps_length}
use Rattle.cluster_steps.proofs.node_step.heard.Goals as goal

pub state-requires-2 : goal.state-requires-2
state-requires-2 g c = steps_length (λ (s : State). heard s c.args.from c.args.message.now) c.args.n (nodes_in c.args.seats.now) (nodes_in c.hear.new.self) c.in_ok-posts.posts c.in_ok-posts.ensures c.requires.there

pub returns-in-Some : goal.returns-in-Some
returns-in-Some g c =
    heard_makes (λ (s : State). heard s c.args.from c.args.message.now) c.args.n (nodes_in c.args.seats.now) (nodes_in c.hear.new.self) c.in_ok-posts.posts _ _ c.args.book.now c.refuse.new.self
    c.running-ran.result c.state.result.now c.state-2.result.now _ c.in_ok-posts.ensures c.in_ok-post_all.ensures c.running-ran.ensures c.state.ensures c.in-Some.ensures c.state-2.ensures
    c.refuse.ensures.history c.refuse.ensures.doubts

pub returns-in_default : goal.returns-in_default
returns-in_default g c =
    heard_makes (λ (s : State). heard s c.args.from c.args.message.now) c.args.n (nodes_in c.args.seats.now) (nodes_in c.hear.new.self) c.in_ok-posts.posts _ _ c.args.book.now c.args.book.now
    c.running-ran.result c.state.result.now c.state-2.result.now _ c.in_ok-posts.ensures c.in_ok-post_all.ensures c.running-ran.ensures c.state.ensures c.in_default.ensures c.state-2.ensures
    refl (λ id. refl)
