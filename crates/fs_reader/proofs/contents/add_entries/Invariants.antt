use Rattle.std.proofs.Common.{◌≡◌, ◌++◌, map, take}
use Rattle.fs_reader.specs.Contents.{entry_of}
use Rattle.fs_reader.proofs.contents.add_entries.Given as goal

abbrev pub invariant-loop-slot : goal.invariant-loop-slot
invariant-loop-slot l = l.slots ≡ l.initial.slots ++ map entry_of (take l.slot-index l.read)
