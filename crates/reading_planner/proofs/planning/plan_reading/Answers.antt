use Rattle.std.proofs.Common.{◌≡◌}
use Rattle.plan_forms.specs.declared.plan.Plan.{Plan}
use Rattle.plan_rules.specs.Orders.{wanted}
use Rattle.plan_read.specs.Finals.{IsReadPlan}
use Rattle.node_rules.specs.Plans.{IsSound, IsWantTold, want_of}
use Rattle.reading_planner.proofs.PlanLemmas.{if_ok, is_sound, is_told, is_wanted}
use Rattle.reading_planner.proofs.planning.plan_reading.Goals as goal

pub returns : goal.returns
returns c =
    let held = c.args.held.now in
    let arrival = c.args.arrival in
    let call = c.args.call.now in
    let cred = c.args.cred.now in
    let reads = c.plan.ensures.reads in
    record {
      wanted = if_ok (IsReadPlan held arrival call cred) (λ (p : Plan). want_of p ≡ wanted held arrival call cred) c.plan.result (λ p is. is_wanted held arrival call cred p is) reads;
      told = if_ok (IsReadPlan held arrival call cred) (IsWantTold held) c.plan.result (λ p is. is_told held arrival call cred p c.requires.work c.requires.served is) reads;
      sound = if_ok (IsReadPlan held arrival call cred) IsSound c.plan.result (λ p is. is_sound held arrival call cred p c.requires.work c.requires.reads is) reads;
      keeps = c.plan.ensures.keeps;
    }
