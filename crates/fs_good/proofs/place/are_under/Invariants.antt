-- The slots so far are empty or lie where they have to.
use Rattle.fs_good.specs.Places.{Below, IsUnder}
use Rattle.fs_good.proofs.place.are_under.Given as goal

abbrev pub invariant-loop-slot : goal.invariant-loop-slot
invariant-loop-slot l = Below (λ e. IsUnder l.tree l.number e) l.slots l.slot-index
