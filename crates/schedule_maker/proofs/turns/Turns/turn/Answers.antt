-- A turn has events.
use Rattle.std.proofs.Common.{◌+◌, ◌++◌, List, ap, ◌∙◌}
use Rattle.event_text.specs.declared.event.Event.{Event}
use Rattle.schedule_maker.specs.Making.{turn_events}
use Rattle.schedule_maker.proofs.MakingLemmas.{turn_some}
use Rattle.schedule_maker.proofs.turns.Turns.turn.Goals as goal

pub returns-clause-some : goal.returns-clause-some
returns-clause-some c none =
    turn_some (c.args.self.now.made + 1) c.args.self.now.x c.push_turn.new.events.items _
    (c.in_ok-x.ensures.events ∙ ap (λ (es : List Event). es ++ turn_events (c.args.self.now.made + 1) c.args.self.now.x) c.new-events.ensures.items) none
