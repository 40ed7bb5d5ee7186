-- The arrival, the drain and what follows are the events of the turn.
use Rattle.schedule_maker.proofs.MakingLemmas.{turn_pushed}
use Rattle.schedule_maker.proofs.events.push_turn.Goals as goal

pub returns-clause-events : goal.returns-clause-events
returns-clause-events c =
    turn_pushed c.push_fault.result c.args.events.now.items c.push_both.new.events.items c.push_fault.new.events.items c.args.i c.args.x c.in_ok-arrival.arrival c.draws_of-turn.result
    c.draws_of-turn.ensures.exact (c.in_ok-arrival.ensures {u = tt}) c.in_ok-push_both.ensures c.push_fault.ensures.events
