use Rattle.sfs_check.proofs.images.is_filled.Goals as goal

pub returns-then-has_superblock : goal.returns-then-has_superblock
returns-then-has_superblock c = (
  λ is. (c.has_superblock.ensures.0 c.if-has_superblock.true, c.has_zeros.ensures.0 is),
  λ both. c.has_zeros.ensures.1 both.1,
)
