use Rattle.std.proofs.Common.{subst}
use Rattle.plan_forms.specs.declared.plan.Plan.{Plan}
use Rattle.read_laws.specs.Promise.{IsPlan}
use Rattle.want_laws.proofs.OrderLemmas.{wants_are_told}
use Rattle.plan_tests.proofs.serving.serve.Goals as goal

pub hold-requires-clause-told : goal.hold-requires-clause-told
hold-requires-clause-told c =
    let held = c.args.held.now in
    let call = c.args.call.now in
    let cred = c.args.cred.now in
    let wanted = subst (λ (p : Plan). IsPlan held 0 call cred (record { sec = 0; usec = 0 }) p) c.in-Need.is c.in_ok-want.ensures.keeps in
    wants_are_told held 0 call cred c.in-Need.want c.requires.work (c.has_numbers.ensures c.if-not-has_numbers.false) wanted
