-- None of the messages from the end on is an attempt.
use Rattle.std.proofs.Common.{◌≡◌, ◌≤◌, length, take}
use Rattle.transcript_rules.specs.Carried.{is_attempt, last_of}
use Rattle.transcript_book.proofs.votes.last_attempt.Given as goal

abbrev pub invariant-loop-end : goal.invariant-loop-end
invariant-loop-end l = (l.end ≤ length l.posts) × (last_of (is_attempt l.node l.now) (take l.end l.posts) ≡ last_of (is_attempt l.node l.now) l.posts)

abbrev pub decreases-loop-end : goal.decreases-loop-end
decreases-loop-end l = l.end
