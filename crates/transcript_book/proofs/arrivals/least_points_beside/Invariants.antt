-- The least is at most those so far.
use Rattle.std.proofs.Common.{◌≡◌, ℕ, ◌<◌, ◌≤◌, get_or}
use Rattle.transcript_book.specs.declared.open.Open.{Open}
use Rattle.transcript_book.proofs.arrivals.least_points_beside.Given as goal

abbrev pub invariant-loop-one : goal.invariant-loop-one
invariant-loop-one l = (l.least ≤ l.points) × ((k : ℕ) (d : Open) → k < l.one-index → ((get_or l.going k d).number ≡ l.number → ⊥) → l.least ≤ (get_or l.going k d).points)
