-- What holds of every line of a schedule.
use Rattle.std.specs.Prelude.{◌≡◌, ℕ, ◌≤◌, ◌↔◌, List, length, Contains, Some}
use Rattle.event_text.specs.Grammar.{HasEventSpelling, spelling_of_event}
use Rattle.event_text.specs.Reading.{event_of}
use Rattle.event_text.specs.declared.event.Event.{Event}
use Rattle.line_words.specs.declared.limits.TheConstants.{MAX_LINE_BYTES}

-- reading takes exactly the spellings of events, each for its event
abbrev pub EventsAreReadExactly : Type 0
EventsAreReadExactly = (text : List ℕ) (e : Event)
    → (event_of text ≡ Some e) ↔ (HasEventSpelling e × (text ≡ spelling_of_event e))

-- events of the same spelling are equal
abbrev pub EventsHaveTheirOwnSpellings : Type 0
EventsHaveTheirOwnSpellings = (a b : Event) → HasEventSpelling a → HasEventSpelling b
    → spelling_of_event a ≡ spelling_of_event b → a ≡ b

-- the spelling of an event is one line: it has no newline, and it is not too long
abbrev pub EventsAreLines : Type 0
EventsAreLines = (e : Event) → HasEventSpelling e
    → (¬ Contains (spelling_of_event e) 10) × (length (spelling_of_event e) ≤ MAX_LINE_BYTES)
