use Rattle.std.proofs.Common.{◌≡◌, ℕ, drop}
use Rattle.mini_tx.specs.FlatMemory.{after}
use Rattle.mini_tx.proofs.FlatLemmas.{IsAsLarge}
use Rattle.mini_tx.proofs.flat_memory.write_all.Given as goal

-- the items that are left do the rest, on as many bytes
abbrev pub invariant-loop-item : goal.invariant-loop-item
invariant-loop-item l = record {
  left : after (drop l.item-index l.items) l.flat ≡ after l.items l.initial.flat;
  sized : IsAsLarge l.flat l.initial.flat;
}
