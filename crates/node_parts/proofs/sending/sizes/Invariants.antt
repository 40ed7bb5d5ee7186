use Rattle.std.proofs.Common.{◌≡◌, ◌++◌, drop}
use Rattle.node_rules.specs.Plans.{read_sizes}
use Rattle.node_parts.proofs.sending.sizes.Given as goal

-- the lengths so far, and those of the items that are left
abbrev pub invariant-loop-item : goal.invariant-loop-item
invariant-loop-item l = l.sizes ++ read_sizes (drop l.item-index l.items) ≡ read_sizes l.items
