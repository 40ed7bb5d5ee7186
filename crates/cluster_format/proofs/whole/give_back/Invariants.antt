use Rattle.std.proofs.Common.{length}
use Rattle.cluster_format.specs.Formats.{shelves_of}
use Rattle.cluster_format.proofs.FormatLemmas.{Gives}
use Rattle.cluster_format.proofs.whole.give_back.Given as goal

-- those that are left have their disks
abbrev pub invariant-loop-slot : goal.invariant-loop-slot
invariant-loop-slot g l =
    Gives (shelves_of g.H.Shelf.tells g.H.Shelf.disks g.H.Shelf.is_taken g.H.Shelf.faults) g.D.Disk.tells (length l.initial.memories.slots.items) l.initial.shelf l.shelf l.memories.slots.items

abbrev pub decreases-loop-slot : goal.decreases-loop-slot
decreases-loop-slot g l = length l.memories.slots.items
