use Rattle.std.proofs.lemmas.Option.{slice_get_within}
use Rattle.std.proofs.lemmas.Result.{err_from_is_err_and}
use Rattle.plan_keep.specs.declared.keep_fault.KeepFault.TheVariants.{Damaged}
use Rattle.plan_keep.proofs.UnfitLemmas.{err_same}
use Rattle.plan_keep.proofs.GroupLemmas.{unfit_group}
use Rattle.plan_keep.proofs.groups.keep_group.Goals as goal

pub returns-in_err-slots-clause-damaged : goal.returns-in_err-slots-clause-damaged
returns-in_err-slots-clause-damaged c =
    let p = err_from_is_err_and c.from_residual.result c.from_residual.ensures.1 in
    rw (p.1, p.2) (λ m at is.
    unfit_group c.args.held.now c.requires.work c.args.number c.args.group c.requires.told c.args.reads.now m at c.requires.reads (c.in_err-slots.ensures.damaged m at (err_same c.in_err-slots.field-0.0 (Damaged m at) is)))

pub returns-clause-ok : goal.returns-clause-ok
returns-clause-ok c =
    let found = c.in_ok-slots.ensures.found in
    record {
      slots = c.in_ok-slots.slots;
      sized = found.sized;
      spelled = λ j bytes is. found.spelled j bytes (slice_get_within c.args.reads.now j bytes is) is;
      fit = found.fit;
      new_is = c.in_ok-push_group.ensures.ok;
    }
