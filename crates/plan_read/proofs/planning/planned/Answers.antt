use Rattle.std.proofs.Common.{[], List, subst}
use Rattle.plan_rules.specs.declared.look.Look.{Look}
use Rattle.plan_rules.specs.Orders.{order}
use Rattle.plan_looks.specs.Goes.{Ends, GoesOn}
use Rattle.plan_read.specs.Finals.{IsFinalOf, IsReadPlan, IsStopped}
use Rattle.plan_read.proofs.PlanLemmas.{if_ok, read_plan, stopped_plan}
use Rattle.plan_read.proofs.planning.planned.Goals as goal

pub returns-in-Ok : goal.returns-in-Ok
returns-in-Ok c arrival =
    let held = c.args.held.now in
    let looks = c.reading.new.looks in
    let goes : GoesOn held (order held arrival c.args.call.now c.args.cred.now) [] looks =
    subst (λ (ls : List Look). GoesOn held (order held arrival c.args.call.now c.args.cred.now) ls looks) c.requires.none_yet (c.in-Ok.ensures.goes arrival) in
    if_ok (IsFinalOf held looks c.in-Ok.reading) (IsReadPlan held arrival c.args.call.now c.args.cred.now) c.final_of.result
    (λ p is. read_plan held arrival c.args.call.now c.args.cred.now looks c.in-Ok.reading p goes c.in-Ok.ensures.gives is) c.final_of.ensures

pub returns-in-Err : goal.returns-in-Err
returns-in-Err c arrival =
    let held = c.args.held.now in
    let looks = c.reading.new.looks in
    let ends : Ends held (order held arrival c.args.call.now c.args.cred.now) [] looks c.in-Err.stop =
    subst (λ (ls : List Look). Ends held (order held arrival c.args.call.now c.args.cred.now) ls looks c.in-Err.stop) c.requires.none_yet (c.in-Err.ensures.goes arrival) in
    if_ok (IsStopped held looks c.in-Err.stop) (IsReadPlan held arrival c.args.call.now c.args.cred.now) c.stopped.result
    (λ p is. stopped_plan held arrival c.args.call.now c.args.cred.now looks c.in-Err.stop p ends is) c.stopped.ensures
