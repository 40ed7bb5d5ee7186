-- The events that are left behind a queue.
use Rattle.std.specs.Prelude.{ℕ, ◌+◌, List, [], ◌∷◌}
use Rattle.event_text.specs.declared.event.Event.{Event}
use Rattle.schedule_maker.specs.Making.{first_event, turns}
use Rattle.schedule_maker.specs.declared.stage.Stage.{Stage}
use Rattle.schedule_maker.specs.declared.stage.Stage.TheVariants as stage
use Rattle.schedule_maker.specs.declared.turns.Turns.{Turns}

-- so many turns from the i-th on: with the cluster before them, without it, or none
abbrev pub left_at : Stage → ℕ → ℕ → ℕ → List Event
left_at stage.Cluster left i x = first_event ∷ turns left i x
left_at stage.Turns left i x = turns left i x
left_at stage.Ended left i x = []

-- the events of the turns that are left
abbrev pub left_of : Turns → List Event
left_of t = left_at t.stage t.left (t.made + 1) t.x
