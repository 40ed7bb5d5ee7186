use Rattle.fs_good.proofs.place.is_in_order.Goals as goal

pub returns-then-fits_tree : goal.returns-then-fits_tree
returns-then-fits_tree c = (
  λ is. (c.fits_tree.ensures.0 c.if-fits_tree.true, c.is_own.ensures.0 is),
  λ both. c.is_own.ensures.1 both.1,
)
