use Rattle.std.proofs.Common.{◌≡◌, ◌≤◌, ℕ, length}
use Rattle.cluster_format.specs.Formats.{AreFresh, IsHeld, shelves_of}
use Rattle.cluster_format.proofs.whole.fill.Given as goal

-- those that were formatted have their disks, and are fresh
abbrev pub invariant-loop-m : goal.invariant-loop-m
invariant-loop-m g l = record {
  held : IsHeld (shelves_of g.H.Shelf.tells g.H.Shelf.disks g.H.Shelf.is_taken g.H.Shelf.faults) g.D.Disk.tells l.initial.shelf l.shelf l.memories.slots.items;
  many : length l.memories.slots.items ≡ l.m;
  within : l.m ≤ l.geometry.memories;
  fresh : AreFresh g.D.Disk.tells g.D.Disk.history g.D.Disk.health l.geometry (g.H.Shelf.tells l.initial.shelf) l.memories.slots.items;
  others : g.H.Shelf.tells l.initial.shelf → (j : ℕ) → l.m ≤ j → g.H.Shelf.disks l.shelf j ≡ g.H.Shelf.disks l.initial.shelf j;
  faults : g.H.Shelf.faults l.shelf ≡ g.H.Shelf.faults l.initial.shelf;
}
