-- Where the files that are left are in place, all are, and the other way round.
use Rattle.std.specs.FinMap.{entries}
use Rattle.fs_good.specs.Places.{IsInPlace}
use Rattle.fs_good.proofs.LoopLemmas.{Left}
use Rattle.fs_good.proofs.place.are_in_place.Given as goal

abbrev pub invariant-loop-number : goal.invariant-loop-number
invariant-loop-number l = Left (λ e. IsInPlace l.tree e.0 e.1) l.number-iterator (entries l.tree.files)
