use Rattle.fs_good.proofs.good.is_ordered.Goals as goal

pub returns-then-is_within_limits : goal.returns-then-is_within_limits
returns-then-is_within_limits c = (
  λ is. (c.is_within_limits.ensures.exact.0 c.if-is_within_limits.true, c.has_order.ensures.0 is),
  λ both. c.has_order.ensures.1 both.1,
)
