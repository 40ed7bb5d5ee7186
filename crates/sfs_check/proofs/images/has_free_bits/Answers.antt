use Rattle.sfs_check.proofs.images.has_free_bits.Goals as goal

pub returns-then-are_free : goal.returns-then-are_free
returns-then-are_free c = (
  λ is. (c.are_free.ensures.0 c.if-are_free.true, c.are_free-then-are_free.ensures.0 is),
  λ both. c.are_free-then-are_free.ensures.1 both.1,
)
