use Rattle.fs_good.proofs.good.has_order.Goals as goal

pub returns-then-is_shaped : goal.returns-then-is_shaped
returns-then-is_shaped c = (
  λ is. (c.is_shaped.ensures.0 c.if-is_shaped.true, c.are_in_place.ensures.0 is),
  λ both. c.are_in_place.ensures.1 both.1,
)
