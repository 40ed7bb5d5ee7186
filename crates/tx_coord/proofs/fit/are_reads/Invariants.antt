use Rattle.std.proofs.Common.{◌≡◌, ◌≤◌, drop, length}
use Rattle.tx_coord.specs.Rules.{have_lengths, placed_for, read_lengths}
use Rattle.tx_coord.proofs.FitLemmas.{lengths_for}
use Rattle.tx_coord.proofs.fit.are_reads.Given as goal

-- what is found of what is left is found of all
abbrev pub invariant-loop-item : goal.invariant-loop-item
invariant-loop-item l =
    (l.next ≤ length l.reads)
    × (have_lengths (lengths_for l.memory_node (drop l.item-index l.items)) (drop l.next l.reads)
    ≡ have_lengths (read_lengths (placed_for l.items l.memory_node)) l.reads)
