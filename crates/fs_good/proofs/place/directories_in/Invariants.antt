-- The slots so far that name a directory were counted.
use Rattle.std.proofs.Common.{◌≡◌, ◌≤◌, take}
use Rattle.std.specs.Prelude.{count_by}
use Rattle.fs_rules.specs.Good.{names_directory}
use Rattle.fs_good.proofs.place.directories_in.Given as goal

abbrev pub invariant-loop-slot : goal.invariant-loop-slot
invariant-loop-slot l = (l.count ≡ count_by (names_directory l.tree) (take l.slot-index l.slots)) × (l.count ≤ l.slot-index)
