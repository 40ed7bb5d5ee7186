-- Where the writing of a schedule stands.
use Rattle.std.specs.Prelude.{◌≡◌, ℕ, ◌<◌, Bool, true, false, List, [], ◌∷◌, ◌++◌, length, Option, Result, Ok, Err}
use Rattle.std.specs.List.{AllByRecursion}
use Rattle.sfs_base.specs.declared.no_memory.NoMemory.{NoMemory}
use Rattle.schedule_text.specs.Stream.{Puts}
use Rattle.event_text.specs.declared.event.Event.{Event}
use Rattle.event_text.specs.Grammar.{IsWritableEvent, spelling_of_event}
use Rattle.line_stream.specs.Output.{WritesFront}
use Rattle.line_stream.specs.declared.stop.Stop.{Stop}
use Rattle.make_command.specs.Made.{text_of}
use Rattle.make_command.specs.declared.making.Making.{Making}

-- the bytes that were written, those that are gathered and the lines of the events that are left are the whole text
pub record Stands (before now : Option (List ℕ)) (whole : List ℕ) (m : Making) : Type 0 where
  pub written : List ℕ
  pub put : Puts before now written
  pub parts : whole ≡ written ++ (m.text.items ++ text_of m.generator)
  pub each : AllByRecursion IsWritableEvent m.generator

-- the line of the next event was gathered
pub record Pushed (old new : Making) : Type 0 where
  pub event : Event
  pub next : old.generator ≡ event ∷ new.generator
  pub text : new.text.items ≡ old.text.items ++ (spelling_of_event event ++ 10 ∷ [])

-- what gathering the line of the next event does
abbrev pub Pushes : Making → Making → Result Bool NoMemory → Type 0
Pushes old new (Ok true) = Pushed old new
Pushes old new (Ok false) = (old.generator ≡ []) × (new.generator ≡ []) × (new.text.items ≡ old.text.items)
Pushes old new (Err e) = Unit {0}

-- a front of the whole text was written
abbrev pub BreaksOff : Option (List ℕ) → Option (List ℕ) → List ℕ → Type 0
BreaksOff before now whole = (rest : List ℕ) × WritesFront before now whole rest

-- what one turn does: there is one event less, or none was left
abbrev pub Turns : Option (List ℕ) → Option (List ℕ) → List ℕ → Making → Making → Result Bool Stop → Type 0
Turns before now whole old new (Ok true) = Stands before now whole new × (length new.generator < length old.generator)
Turns before now whole old new (Ok false) = Stands before now whole new × (new.generator ≡ [])
Turns before now whole old new (Err stop) = BreaksOff before now whole
