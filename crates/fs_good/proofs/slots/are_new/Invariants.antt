-- The names so far were taken, and are different.
use Rattle.fs_good.proofs.NameLemmas.{AreTaken}
use Rattle.fs_good.proofs.slots.are_new.Given as goal

abbrev pub invariant-loop-slot : goal.invariant-loop-slot
invariant-loop-slot l = AreTaken l.names.keys l.slots l.slot-index
