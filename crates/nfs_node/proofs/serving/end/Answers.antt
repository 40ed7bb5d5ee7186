use Rattle.std.proofs.Common.{◌≡◌, Some}
use Rattle.nfs_node.proofs.EventLemmas.{ended_on, ended_over, ends_order, goes_on_order, idle_again}
use Rattle.nfs_node.proofs.ProgressLemmas.{if_ok}
use Rattle.nfs_node.proofs.serving.end.Goals as goal

pub start-requires-clause-order : goal.start-requires-clause-order
start-requires-clause-order g c =
    let node = c.args.state.now in
    let r = c.unwrap-running.result in
    let runs : node.running ≡ Some r = cc (c.take.ensures.value, c.unwrap-running.ensures) in
    let going = goes_on_order node r runs c.args.outcome.now c.kept_is_in_order.ensures c.requires.order (c.requires.fits r runs) c.in_ok-work.field-0 c.ended.new.cache
    c.in-GoesOn.work c.in-GoesOn.is c.in_ok-work.ensures in
    idle_again node c.requires.order c.ended.new.cache going.stock.cache c.take.new.self c.take.ensures.after

pub start-requires-clause-work : goal.start-requires-clause-work
start-requires-clause-work g c =
    let node = c.args.state.now in
    let r = c.unwrap-running.result in
    let runs : node.running ≡ Some r = cc (c.take.ensures.value, c.unwrap-running.ensures) in
    goes_on_order node r runs c.args.outcome.now c.kept_is_in_order.ensures c.requires.order (c.requires.fits r runs) c.in_ok-work.field-0 c.ended.new.cache
    c.in-GoesOn.work c.in-GoesOn.is c.in_ok-work.ensures

pub end_with-requires-clause-order : goal.end_with-requires-clause-order
end_with-requires-clause-order g c =
    let node = c.args.state.now in
    let r = c.unwrap-running.result in
    let runs : node.running ≡ Some r = cc (c.take.ensures.value, c.unwrap-running.ensures) in
    idle_again node c.requires.order c.ended.new.cache
    (ends_order node r runs c.args.outcome.now c.kept_is_in_order.ensures c.requires.order (c.requires.fits r runs) c.in_ok-work.field-0 c.ended.new.cache
    c.in-Ends.output c.in-Ends.is c.in_ok-work.ensures) c.take.new.self c.take.ensures.after

pub returns-in_ok-output-in-GoesOn-clause-exact : goal.returns-in_ok-output-in-GoesOn-clause-exact
returns-in_ok-output-in-GoesOn-clause-exact g c =
    let node = c.args.state.now in
    let r = c.unwrap-running.result in
    let runs : node.running ≡ Some r = cc (c.take.ensures.value, c.unwrap-running.ensures) in
    if_ok c.only.result c.only.ensures
    (λ outputs is. ended_on g.P.Planner.plans node r runs c.args.outcome.now c.in_ok-work.field-0 c.ended.new.cache c.in_ok-work.ensures c.take.new.self c.take.ensures.after
    c.in-GoesOn.work c.in-GoesOn.is c.start.new.state c.in_ok-output-in-GoesOn.output c.in_ok-output-in-GoesOn.ensures.started outputs is)

pub returns-in-Ends-clause-exact : goal.returns-in-Ends-clause-exact
returns-in-Ends-clause-exact g c =
    let node = c.args.state.now in
    let r = c.unwrap-running.result in
    let runs : node.running ≡ Some r = cc (c.take.ensures.value, c.unwrap-running.ensures) in
    if_ok c.end_with.result c.end_with.ensures.next
    (λ outputs is. ended_over g.P.Planner.plans node r runs c.args.outcome.now c.in_ok-work.field-0 c.ended.new.cache c.in_ok-work.ensures c.take.new.self c.take.ensures.after
    c.in-Ends.output c.in-Ends.is c.end_with.new.state outputs is)
