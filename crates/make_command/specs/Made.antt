-- The text of a made schedule.
use Rattle.std.specs.Prelude.{ℕ, List, [], ◌∷◌, ◌++◌}
use Rattle.std.specs.List.{flat_map}
use Rattle.event_text.specs.declared.event.Event.{Event}
use Rattle.event_text.specs.Grammar.{spelling_of_event}
use Rattle.schedule_maker.specs.Making.{schedule}

-- the bytes of events: each line and its end
unfoldable pub text_of : List Event → List ℕ
text_of events = flat_map (λ e. spelling_of_event e ++ 10 ∷ []) events

-- the text of the schedule of a number, with so many arrivals
abbrev pub made_text : ℕ → ℕ → List ℕ
made_text seed count = text_of (schedule seed count)
