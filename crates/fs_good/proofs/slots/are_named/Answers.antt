use Rattle.fs_good.proofs.slots.are_named.Goals as goal

pub returns-then-are_whole : goal.returns-then-are_whole
returns-then-are_whole c = (
  λ is. (c.are_whole.ensures.0 c.if-are_whole.true, c.have_names.ensures.0 is),
  λ both. c.have_names.ensures.1 both.1,
)
