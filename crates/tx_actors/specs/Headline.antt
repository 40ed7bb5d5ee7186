-- The theorem in one piece, for a cluster that was formatted.
use Rattle.std.specs.Prelude.{◌≡◌, ℕ, List, [], ◌↔◌}
use Rattle.tx_rules.specs.Mini.{In, Setting, cells_of, flat}
use Rattle.tx_rules.specs.Decision.{Commit, Abort, Forget, At, IsOpen, IsCommitted, IsAborted, IsOver}
use Rattle.tx_rules.specs.World.{World}
use Rattle.tx_rules.specs.Opening.{IsFormatted}
use Rattle.tx_rules.specs.Laws.{IsDistinct, AllMatch}
use Rattle.tx_actors.specs.Machine.{Input, steps, opened_at}
use Rattle.tx_actors.specs.Laws.{IsFitting}

-- decisions agree: a logged commit is of a committed identifier, a logged abort of an aborted one, no identifier is
-- both, and what is forgotten anywhere every participant is through with; the points are the committed identifiers,
-- none twice; each of their minitransactions matches the flat memory after those before it; and a memory node holds
-- its part of the flat memory wherever no undecided record touches it
pub record IsSerial (s : Setting) (w : World) : Type 0 where
  pub commits : (m t : ℕ) → In (At m (Commit t)) w.log → IsCommitted s w.log t
  pub aborts : (m t : ℕ) → In (At m (Abort t)) w.log → IsAborted s w.log t
  pub one_way : (t : ℕ) → IsCommitted s w.log t → ¬ IsAborted s w.log t
  pub forgotten : (m t : ℕ) → In (At m (Forget t)) w.log → IsOver s w.log t
  pub points : IsDistinct w.points × ((t : ℕ) → In t w.points ↔ (In t w.begun × IsCommitted s w.log t))
  pub matches : AllMatch s w.points
  pub images : (m a : ℕ) → ((t : ℕ) → IsOpen w.log m t → ¬ In a (cells_of s t m)) → w.image m a ≡ flat s w.points m a

-- whatever happens to the actors of a formatted cluster: beginnings, deliveries in any order and any number of times,
-- stops at any moment, crashes and starts, giving up, posting again, and sweeps
abbrev pub FormattedClustersAreSerial : Type 0
FormattedClustersAreSerial = (s : Setting) (next : ℕ → ℕ) (inputs : List Input) → IsFormatted s
    → IsFitting s (steps s (opened_at s [] s.start next) inputs).world → IsSerial s (steps s (opened_at s [] s.start next) inputs).world
