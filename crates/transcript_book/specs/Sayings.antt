-- What is kept of the lines under one event.
use Rattle.std.specs.Prelude.{◌≡◌, ℕ, nat_le, Bool, true, false, List, [], ◌∷◌, ◌++◌, Option, Some, None}
use Rattle.std.specs.List.{list_any, list_all}
use Rattle.mini_tx.specs.declared.actor.Actor.{Actor}
use Rattle.line_text.specs.declared.line.Line.{Line}
use Rattle.line_text.specs.declared.line.Line.TheVariants as line
use Rattle.transcript_rules.specs.Book.{is_actor}
use Rattle.transcript_rules.specs.Truth.{is_mounting_line}
use Rattle.transcript_rules.specs.Place.{rank, is_lost_line, is_retry_line, is_sent, is_sent_by_memory, is_down_line_of}
use Rattle.transcript_book.specs.declared.said.Said.{Said}

-- there is no line
abbrev pub are_none : List Line → Bool
are_none [] = true
are_none (l ∷ ls) = false

-- who goes down by a line
abbrev pub downed : Line → Option Actor
downed (line.Down who why) = Some who
downed other = None

abbrev pub with_downed : List Actor → Option Actor → List Actor
with_downed downs None = downs
with_downed downs (Some who) = downs ++ who ∷ []

-- what is kept answers each question as the lines do
pub record AreSaid (ls : List Line) (s : Said) : Type 0 where
  pub none : s.none ≡ are_none ls
  pub highest : (r : ℕ) → nat_le s.highest r ≡ list_all (λ l. nat_le (rank l) r) ls
  pub lost : s.lost ≡ list_any is_lost_line ls
  pub retry : s.retry ≡ list_any is_retry_line ls
  pub mounting : s.mounting ≡ list_any is_mounting_line ls
  pub sent : s.sent ≡ list_any is_sent ls
  pub sent_by_memory : s.sent_by_memory ≡ list_any is_sent_by_memory ls
  pub downs : (who : Actor) → list_any (is_actor who) s.downs.items ≡ list_any (is_down_line_of who) ls
