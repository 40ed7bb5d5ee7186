-- A schedule: what each line of a text says.
use Rattle.std.specs.Prelude.{ℕ, nat_le, if◌then◌else◌, List, length, map, Option, None}
use Rattle.event_text.specs.declared.event.Event.{Event}
use Rattle.event_text.specs.Reading.{event_of}
use Rattle.line_words.specs.declared.limits.TheConstants.{MAX_LINE_BYTES}
use Rattle.line_stream.specs.Lines.{lines_of}

-- what each line says: an event, or nothing where the line is outside the grammar
abbrev pub Schedule : Type 0
Schedule = List (Option Event)

-- what a line says, where it has no more bytes than a line may have
abbrev pub event_in : List ℕ → Option Event
event_in line = if nat_le (length line) MAX_LINE_BYTES then event_of line else None

-- the schedule that a text spells
abbrev pub schedule_of : List ℕ → Schedule
schedule_of text = map event_in (lines_of text)
