-- What comes behind the lines that were passed is what comes.
use Rattle.std.proofs.Common.{◌≡◌, ◌-◌, ◌≤◌, length, drop}
use Rattle.transcript_next.specs.Nexts.{next_by, scheduled}
use Rattle.transcript_next.proofs.next.next_event.Given as goal

abbrev pub invariant-loop-taken : goal.invariant-loop-taken
invariant-loop-taken l =
    (l.taken ≤ length l.events) × (l.facts ≡ l.fn.facts)
    × (next_by l.geometry l.fn.facts l.taken l.drained (drop l.taken (scheduled l.events)) ≡ next_by l.geometry l.fn.facts l.fn.facts.taken l.fn.facts.drained (drop l.fn.facts.taken (scheduled l.events)))

abbrev pub decreases-loop-taken : goal.decreases-loop-taken
decreases-loop-taken l = length l.events - l.taken
