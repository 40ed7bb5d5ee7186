use Rattle.std.proofs.Common.{◌≡◌, ◌++◌, drop}
use Rattle.tx_coord.specs.Rules.{placed_from}
use Rattle.tx_coord.proofs.participants.placed_for.Given as goal

-- the items so far, and those that are left
abbrev pub invariant-loop-item : goal.invariant-loop-item
invariant-loop-item l = l.placed ++ placed_from l.memory_node l.next (drop l.item-index l.items) ≡ placed_from l.memory_node 0 l.items
