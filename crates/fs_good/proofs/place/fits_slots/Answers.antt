use Rattle.fs_good.proofs.place.fits_slots.Goals as goal

pub returns-then-are_under : goal.returns-then-are_under
returns-then-are_under c = (
  λ is. (c.has_links.ensures.0 is, c.are_under.ensures.0 c.if-are_under.true),
  λ both. c.has_links.ensures.1 both.0,
)
