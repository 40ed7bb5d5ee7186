use Rattle.read_laws.specs.Promise.{IsPlan}
use Rattle.plan_read.specs.Finals.{IsReadPlan}
use Rattle.plan_read.proofs.PlanLemmas.{if_ok, plan_keeps}
use Rattle.plan_read.proofs.planning.plan.Goals as goal

pub returns : goal.returns
returns c =
    let held = c.args.held.now in
    let reads = c.planned.ensures c.args.arrival in
    record {
      reads = reads;
      keeps = if_ok (IsReadPlan held c.args.arrival c.args.call.now c.args.cred.now) (IsPlan held c.args.arrival c.args.call.now c.args.cred.now c.args.now) c.planned.result
          (λ p is. plan_keeps held c.args.arrival c.args.call.now c.args.cred.now c.args.now p c.requires.work c.requires.call is) reads;
    }
