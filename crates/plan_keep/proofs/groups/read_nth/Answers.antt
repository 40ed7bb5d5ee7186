use Rattle.std.proofs.Common.{◌≡◌, List, Option, sym, subst}
use Rattle.std.specs.Prelude.{ℕ, IfSome}
use Rattle.fs_dir.specs.Slots.{SpellsSlots}
use Rattle.fs_layout.specs.declared.reference.Reference.{Reference}
use Rattle.plan_keep.specs.declared.keep_fault.KeepFault.TheVariants.{Damaged}
use Rattle.plan_keep.specs.Links.{LiesThere}
use Rattle.plan_keep.proofs.GroupLemmas.{nth_lies}
use Rattle.plan_keep.proofs.groups.read_nth.Goals as goal

pub returns-in-Err-Bad-clause-damaged : goal.returns-in-Err-Bad-clause-damaged
returns-in-Err-Bad-clause-damaged c = λ m at is.
    let held = c.args.held.now in
    let lies = nth_lies held c.requires.work c.args.number c.args.group c.requires.told c.args.index c.requires.inside in
    let fault : c.block_fault.result ≡ Damaged m at = cc in
    record {
      place = lies.0;
      place_is = lies.1;
      lies = subst (λ (o : Option Reference). IfSome o (λ r. LiesThere held.geometry r m at)) lies.1 (c.block_fault.ensures m at fault);
      unfit = λ fit. c.in-Err-Bad.ensures.bad c.in-Err-Bad.field-0-is fit.0
          (subst (λ (b : List ℕ). SpellsSlots fit.0 b) (sym c.as_slice.ensures.value) fit.1) fit.2;
    }
