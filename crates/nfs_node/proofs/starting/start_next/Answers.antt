use Rattle.std.proofs.Common.{sym, subst, ◌∙◌}
use Rattle.node_rules.specs.Order.{IsWorkInOrder}
use Rattle.nfs_node.proofs.EventLemmas.{idle_of, next_of, popped_order}
use Rattle.nfs_node.proofs.OrderLemmas.{fresh_order}
use Rattle.nfs_node.proofs.ProgressLemmas.{if_ok}
use Rattle.nfs_node.proofs.StepLemmas.{next_served}
use Rattle.nfs_node.proofs.starting.start_next.Goals as goal

pub start-requires-clause-order : goal.start-requires-clause-order
start-requires-clause-order g c = popped_order c.args.state.now c.requires.order c.pop.new.self c.pop.ensures.after

pub start-requires-clause-work : goal.start-requires-clause-work
start-requires-clause-work g c =
    subst (λ w. IsWorkInOrder c.args.state.now.geometry c.args.state.now.cache w) (sym c.in_ok-work-in-Some.ensures)
    (fresh_order c.args.state.now.geometry c.args.state.now.cache c.in-Some.arrival c.requires.order.limits c.requires.order.cache
    (next_served c.args.state.now c.requires.order c.in-Some.arrival (sym c.pop.ensures.gives ∙ c.in-Some.is)))

pub returns-in_ok-output-in-Some-clause-next : goal.returns-in_ok-output-in-Some-clause-next
returns-in_ok-output-in-Some-clause-next g c =
    if_ok c.only.result c.only.ensures
    (λ outputs is. next_of g.P.Planner.plans c.args.state.now c.requires.idle c.pop.result c.pop.ensures.gives c.pop.new.self c.pop.ensures.after c.in-Some.arrival c.in-Some.is
    c.in_ok-work-in-Some.work c.in_ok-work-in-Some.ensures c.start.new.state c.in_ok-output-in-Some.output c.in_ok-output-in-Some.ensures.started outputs is)

pub returns-in-None-clause-next : goal.returns-in-None-clause-next
returns-in-None-clause-next g c =
    idle_of g.P.Planner.plans c.args.state.now c.requires.idle c.pop.result c.pop.ensures.gives c.pop.new.self c.pop.ensures.after c.in-None.is c.new.result c.new.ensures

pub returns-in-None-clause-order : goal.returns-in-None-clause-order
returns-in-None-clause-order g c = popped_order c.args.state.now c.requires.order c.pop.new.self c.pop.ensures.after
