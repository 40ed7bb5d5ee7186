use Rattle.std.proofs.Common.{take}
use Rattle.std.specs.Prelude.{All}
use Rattle.mini_tx.specs.FlatMemory.{ItemMatches}
use Rattle.mini_tx.proofs.flat_memory.matches.Given as goal

-- the items so far match
abbrev pub invariant-loop-item : goal.invariant-loop-item
invariant-loop-item l = All (ItemMatches l.flat) (take l.item-index l.items)
