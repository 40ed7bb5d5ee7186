-- What is found of a transcript.
use Rattle.std.specs.Prelude.{◌≡◌, ℕ, ◌+◌, ◌-◌, ◌<◌, ◌≤◌, ◌==◌, Bool, true, false, if◌then◌else◌, List, [], ◌∷◌, length, take, Option, Some, None, ◌⊎◌}
use Rattle.line_text.specs.declared.line.Line.{Line}
use Rattle.line_text.specs.declared.line.Line.TheVariants as line
use Rattle.transcript_rules.specs.Opening.{Schedule}
use Rattle.transcript_rules.specs.Legal.{IsTranscript}
use Rattle.transcript_check.specs.declared.verdict.Verdict.{Verdict}
use Rattle.transcript_check.specs.declared.verdict.Verdict.TheVariants as verdict

-- a line that ends a transcript
abbrev pub is_last : Line → Bool
is_last (line.Refused number) = true
is_last line.End = true
is_last other = false

-- the last of some lines does
unfoldable pub ends : List Line → Bool
ends [] = false
ends (l ∷ []) = is_last l
ends (l ∷ m ∷ ls) = ends (m ∷ ls)

-- a transcript is legal for a schedule, and ends in `end` or `refused N`
pub record IsWhole (schedule : Schedule) (lines : List Line) : Type 0 where
  pub legal : IsTranscript schedule lines
  pub ended : ends lines ≡ true

-- the lines before this one are legal, and with it they are not; or it is the first that is missing
pub record FailsAt (schedule : Schedule) (lines : List Line) (number : ℕ) : Type 0 where
  pub first : 0 < number
  pub before : IsTranscript schedule (take (number - 1) lines)
  pub fails : ((number ≤ length lines) × (IsTranscript schedule (take number lines) → ⊥)) ⊎ ((number ≡ length lines + 1) × (ends lines ≡ false))

abbrev pub IsVerdict : Schedule → List Line → Verdict → Type 0
IsVerdict schedule lines verdict.Holds = IsWhole schedule lines
IsVerdict schedule lines (verdict.Fails number) = FailsAt schedule lines number

-- of so many lines that may stand, of which the last ends the transcript or not
abbrev pub ending : Bool → ℕ → Verdict
ending closed count = if closed then verdict.Holds else verdict.Fails (count + 1)

-- a line that refuses the first line of the schedule
abbrev pub is_first_refused : Line → Bool
is_first_refused (line.Refused number) = number == 1
is_first_refused other = false

abbrev pub at_once : Bool → ℕ → Verdict
at_once refuses count = if refuses then (if count == 1 then verdict.Holds else verdict.Fails 2) else verdict.Fails 1

-- where the schedule names no cluster, it is refused at once
abbrev pub refused_at_once : List Line → Verdict
refused_at_once [] = verdict.Fails 1
refused_at_once (l ∷ ls) = at_once (is_first_refused l) (length (l ∷ ls))
