-- The arrivals so far are as they shall be.
use Rattle.std.proofs.Common.{◌≡◌, ◌++◌, length, map, take, drop}
use Rattle.transcript_rules.specs.Next.{lost_at}
use Rattle.transcript_book.proofs.arrivals.lose_at.Given as goal

abbrev pub invariant-loop-index : goal.invariant-loop-index
invariant-loop-index l =
    (length l.told.items ≡ length l.initial.told.items) × (l.told.items ≡ map (lost_at l.node) (take l.index l.initial.told.items) ++ drop l.index l.initial.told.items)
