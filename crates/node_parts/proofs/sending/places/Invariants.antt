use Rattle.std.proofs.Common.{◌≡◌, ◌++◌, drop, map}
use Rattle.mini_tx.specs.Minitransactions.{place_of}
use Rattle.node_parts.proofs.sending.places.Given as goal

-- the addresses so far, and those of the items that are left
abbrev pub invariant-loop-item : goal.invariant-loop-item
invariant-loop-item l = l.places ++ map place_of (drop l.item-index l.items) ≡ map place_of l.items
