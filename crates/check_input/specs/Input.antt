-- What the input of the command `check` says.
use Rattle.std.specs.Prelude.{◌≡◌, ℕ, ◌+◌, ◌==◌, nat_le, nat_lt, Bool, true, false, not, if◌then◌else◌, List, [], ◌∷◌, length, Option, Some, None, Result, Ok, Err}
use Rattle.fs_rules.specs.Geometry.{within_limits}
use Rattle.event_text.specs.declared.event.Event.{Event}
use Rattle.event_text.specs.declared.event.Event.TheVariants as event
use Rattle.line_text.specs.declared.line.Line.{Line}
use Rattle.line_text.specs.Reading.{line_of}
use Rattle.line_words.specs.declared.limits.TheConstants.{MAX_LINES, MAX_LINE_BYTES}
use Rattle.line_stream.specs.Lines.{lines_of}
use Rattle.line_stream.specs.Schedule.{event_in}
use Rattle.check_input.specs.declared.input.Input.{Input}
use Rattle.check_input.specs.declared.input.Input.TheVariants as input
use Rattle.check_input.specs.declared.schedule.Begins.{Begins}
use Rattle.check_input.specs.declared.schedule.Begins.TheVariants as begins

-- ---- the schedule

-- a cluster within the limits
abbrev pub is_opening : Event → Bool
is_opening (event.Cluster nodes memories blocks inodes) = within_limits (record { nodes = nodes; memories = memories; blocks = blocks; inodes = inodes })
is_opening other = false

abbrev pub is_cluster : Event → Bool
is_cluster (event.Cluster nodes memories blocks inodes) = true
is_cluster other = false

abbrev pub is_end : Event → Bool
is_end event.End = true
is_end other = false

-- a cluster stands in the first line, and in no other
abbrev pub may_stand : ℕ → Event → Bool
may_stand number e = if number == 1 then is_opening e else not (is_cluster e)

-- the event of the line with this number, if it may stand there
abbrev pub if_it_may : ℕ → Option Event → Option Event
if_it_may number None = None
if_it_may number (Some e) = if may_stand number e then Some e else None

abbrev pub event_at : ℕ → List ℕ → Option Event
event_at number line = if_it_may number (event_in line)

-- what lines begin with: a schedule, and the lines behind it; or the number of a line that is refused
pub data Beginning : Type 0 where
  Schedule : List Event → List (List ℕ) → Beginning
  Refused : ℕ → Beginning

-- an event in front of it
abbrev pub onto : Event → Beginning → Beginning
onto e (Schedule events rest) = Schedule (e ∷ events) rest
onto e (Refused number) = Refused number

abbrev pub with_event : ℕ → Option Event → List (List ℕ) → Beginning → Beginning
with_event number None rest more = Refused number
with_event number (Some e) rest more = if is_end e then Schedule (e ∷ []) rest else onto e more

-- the schedule that lines begin with, of which the first has this number: up to and with its `end`
unfoldable pub schedule_from : ℕ → List (List ℕ) → Beginning
schedule_from number [] = Refused number
schedule_from number (line ∷ lines) =
    if nat_lt MAX_LINES number then Refused number else with_event number (event_at number line) lines (schedule_from (number + 1) lines)

-- what was read is this
abbrev pub IsRead : Beginning → Begins → Type 0
IsRead b (begins.Schedule events rest) = b ≡ Schedule events (lines_of rest.now)
IsRead b (begins.Refused line) = b ≡ Refused line

-- ---- the transcript

-- what a line says, where it has no more bytes than a line may have
abbrev pub line_in : List ℕ → Option Line
line_in line = if nat_le (length line) MAX_LINE_BYTES then line_of line else None

abbrev pub with_line : ℕ → Option Line → Result (List Line) ℕ → Result (List Line) ℕ
with_line number None more = Err number
with_line number (Some l) (Ok ls) = Ok (l ∷ ls)
with_line number (Some l) (Err refused) = Err refused

-- the lines of a transcript, of which the first has this number; or the number of the first that is none
unfoldable pub lines_from : ℕ → List (List ℕ) → Result (List Line) ℕ
lines_from number [] = Ok []
lines_from number (line ∷ lines) = with_line number (line_in line) (lines_from (number + 1) lines)

-- ---- both

abbrev pub with_lines : List Event → Result (List Line) ℕ → Input
with_lines events (Ok lines) = input.Texts events lines
with_lines events (Err number) = input.Refused number

abbrev pub behind : Beginning → Input
behind (Schedule events rest) = with_lines events (lines_from (length events + 1) rest)
behind (Refused number) = input.Refused number

-- what a text says
abbrev pub input_of : List ℕ → Input
input_of text = behind (schedule_from 1 (lines_of text))
