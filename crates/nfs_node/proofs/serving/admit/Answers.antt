use Rattle.std.proofs.Common.{sym, subst, ◌∙◌}
use Rattle.node_rules.specs.Order.{IsWorkInOrder}
use Rattle.nfs_node.proofs.EventLemmas.{admitted_full, admitted_starts, admitted_waits}
use Rattle.nfs_node.proofs.OrderLemmas.{fresh_order}
use Rattle.nfs_node.proofs.ProgressLemmas.{if_ok}
use Rattle.nfs_node.proofs.serving.admit.Goals as goal

pub returns-then-is_full-clause-admitted : goal.returns-then-is_full-clause-admitted
returns-then-is_full-clause-admitted g c =
    if_ok c.only.result c.only.ensures
    (λ outputs is. admitted_full g.P.Planner.plans c.args.state.now c.args.arrival (sym c.is_full.ensures.value ∙ c.if-is_full.true) outputs is)

pub returns-then-is_some-clause-admitted : goal.returns-then-is_some-clause-admitted
returns-then-is_some-clause-admitted g c =
    admitted_waits g.P.Planner.plans c.args.state.now c.args.arrival (sym c.is_full.ensures.value ∙ c.if-is_full.false) c.is_full.ensures.bounded
    (sym c.is_some.ensures ∙ c.if-is_some.true) c.push.new.self c.push.ensures c.new.result c.new.ensures

pub start-requires-clause-work : goal.start-requires-clause-work
start-requires-clause-work g c =
    subst (λ w. IsWorkInOrder c.args.state.now.geometry c.args.state.now.cache w) (sym c.in_ok-work.ensures)
    (fresh_order c.args.state.now.geometry c.args.state.now.cache c.args.arrival c.requires.order.limits c.requires.order.cache c.requires.served)

pub returns-clause-admitted : goal.returns-clause-admitted
returns-clause-admitted g c =
    if_ok c.only-2.result c.only-2.ensures
    (λ outputs is. admitted_starts g.P.Planner.plans c.args.state.now c.args.arrival (sym c.is_full.ensures.value ∙ c.if-is_full.false) c.is_full.ensures.bounded
    (sym c.is_some.ensures ∙ c.if-is_some.false) c.in_ok-work.work c.in_ok-work.ensures c.start.new.state c.in_ok-output.output c.in_ok-output.ensures.started outputs is)
