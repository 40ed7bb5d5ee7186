use Rattle.sfs_check.proofs.TreeLemmas.{zeros_from, zeros_to}
use Rattle.sfs_check.proofs.images.has_zeros.Goals as goal

pub returns-then-has_free_bits : goal.returns-then-has_free_bits
returns-then-has_free_bits c = (
  λ is. (
    c.has_free_bits.ensures.0 c.if-has_free_bits.true,
    zeros_from c.behind_records.result.now _ _ c.behind_records.ensures.value c.behind_records.ensures.len (c.are_zeros.ensures.0 is),
  ),
  λ both. c.are_zeros.ensures.1 (zeros_to c.behind_records.result.now _ _ c.behind_records.ensures.value c.behind_records.ensures.len both.1),
)
