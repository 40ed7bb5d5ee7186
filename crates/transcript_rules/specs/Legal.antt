-- Which transcripts are legal for a schedule: each line is judged by the schedule and the lines before it.
use Rattle.std.specs.Prelude.{◌≡◌, ℕ, false, List, [], ◌∷◌, ◌++◌, Option, Some, None, ◌⊎◌, option_map}
use Rattle.std.specs.List.{flat_map}
use Rattle.line_text.specs.declared.line.Line.{Line}
use Rattle.line_text.specs.declared.line.Line.TheVariants as line
use Rattle.line_text.specs.Grammar.{spelling_of_line}
use Rattle.transcript_rules.specs.Opening.{Opening, Schedule, cluster_of, fresh_opening}
use Rattle.transcript_rules.specs.Book.{Book, opened}
use Rattle.transcript_rules.specs.Next.{noted}
use Rattle.transcript_rules.specs.Truth.{IsTrueLine}
use Rattle.transcript_rules.specs.Carried.{IsCarried}
use Rattle.transcript_rules.specs.Cause.{HasItsCause}
use Rattle.transcript_rules.specs.Place.{HasItsPlace}

-- a line may come after those that the book tells: it is true, it rests on messages, it has its cause, and it has its place; and
-- the last line does not stand yet
pub record IsAllowed (o : Opening) (schedule : Schedule) (book : Book) (l : Line) : Type 0 where
  pub ongoing : book.closed ≡ false
  pub true_line : IsTrueLine book l
  pub carried : IsCarried o book l
  pub cause : HasItsCause o book l
  pub place : HasItsPlace o schedule book l

-- these lines may come, one after another
unfoldable pub IsLegalFrom : Opening → Schedule → Book → List Line → Type 0
IsLegalFrom o schedule book [] = Unit {0}
IsLegalFrom o schedule book (l ∷ ls) = IsAllowed o schedule book l × IsLegalFrom o schedule (noted o schedule book l) ls

-- a transcript is legal for a schedule and an opening
abbrev pub IsLegal : Opening → Schedule → List Line → Type 0
IsLegal o schedule lines = IsLegalFrom o schedule (opened o) lines

-- where the schedule names no cluster within the limits, its first line is refused, and nothing else stands
abbrev pub IsRefusedAtOnce : List Line → Type 0
IsRefusedAtOnce lines = (lines ≡ []) ⊎ (lines ≡ line.Refused 1 ∷ [])

-- a transcript is legal for a schedule whose cluster was just formatted
abbrev pub IsLegalFor : Option Opening → Schedule → List Line → Type 0
IsLegalFor (Some o) schedule lines = IsLegal o schedule lines
IsLegalFor None schedule lines = IsRefusedAtOnce lines

-- and of any schedule
abbrev pub IsTranscript : Schedule → List Line → Type 0
IsTranscript schedule lines = IsLegalFor (option_map fresh_opening (cluster_of schedule)) schedule lines

-- the bytes of a transcript: each line and its end
unfoldable pub text_of : List Line → List ℕ
text_of lines = flat_map (λ l. spelling_of_line l ++ 10 ∷ []) lines
