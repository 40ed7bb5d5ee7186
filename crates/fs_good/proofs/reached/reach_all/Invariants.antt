-- The directories that the slots so far name were reached.
use Rattle.fs_good.specs.Reached.{Reaches}
use Rattle.fs_good.proofs.reached.reach_all.Given as goal

abbrev pub invariant-loop-slot : goal.invariant-loop-slot
invariant-loop-slot l = Reaches l.slots l.slot-index l.initial.unknown l.initial.work.items l.unknown l.work.items
