use Rattle.std.proofs.Common.{◌≡◌, ◌++◌, drop}
use Rattle.mini_tx.specs.FlatMemory.{reads}
use Rattle.mini_tx.proofs.flat_memory.read_all.Given as goal

-- what was read, and what the items that are left read, is all that is read
abbrev pub invariant-loop-item : goal.invariant-loop-item
invariant-loop-item l = l.read ++ reads (drop l.item-index l.items) l.flat ≡ reads l.items l.flat
