use Rattle.std.proofs.Common.{◌≡◌, true, false, All, sym, subst, ◌∙◌}
use Rattle.fs_dir.proofs.BlockLemmas.{block_one}
use Rattle.plan_rules.specs.Fits.{IsFitSlot}
use Rattle.plan_parts.proofs.reading.read_block.Goals as goal

pub returns-else-are_fit-clause-bad : goal.returns-else-are_fit-clause-bad
returns-else-are_fit-clause-bad c = λ bad s spelled fit.
    let same = block_one s c.in_ok-slots.slots c.args.bytes.now spelled c.in_ok-slots.ensures.found ∙ sym c.as_slice.ensures.value in
    let yes : c.are_fit.result ≡ true = c.are_fit.ensures.1 (subst (λ l. All (IsFitSlot c.args.geometry.now) l) same fit) in
    let no : c.are_fit.result ≡ false = c.if-are_fit.false in
    absurd cc
