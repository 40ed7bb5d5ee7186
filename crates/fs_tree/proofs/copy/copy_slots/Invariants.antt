-- The slots so far are copied.
use Rattle.std.proofs.Common.{◌≡◌, take}
use Rattle.fs_tree.proofs.copy.copy_slots.Given as goal

abbrev pub invariant-loop-slot : goal.invariant-loop-slot
invariant-loop-slot l = l.copy ≡ take l.slot-index l.slot-items
