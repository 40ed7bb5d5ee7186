use Rattle.std.proofs.Common.{◌≡◌, ◌++◌, drop}
use Rattle.node_rules.specs.Begin.{written}
use Rattle.node_parts.proofs.sending.written.Given as goal

-- the memory nodes so far, and those of the items that are left
abbrev pub invariant-loop-item : goal.invariant-loop-item
invariant-loop-item l = l.memories ++ written (drop l.item-index l.items) ≡ written l.items
