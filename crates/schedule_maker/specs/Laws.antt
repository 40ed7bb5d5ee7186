-- What holds of every made schedule.
use Rattle.std.specs.Prelude.{ℕ}
use Rattle.std.specs.List.{AllByRecursion}
use Rattle.event_text.specs.Grammar.{IsWritableEvent}
use Rattle.schedule_maker.specs.Making.{schedule}

-- each of its events can be written
abbrev pub SchedulesCanBeWritten : Type 0
SchedulesCanBeWritten = (seed count : ℕ) → AllByRecursion IsWritableEvent (schedule seed count)
