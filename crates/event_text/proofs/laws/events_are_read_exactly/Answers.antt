use Rattle.event_text.proofs.EventLemmas.{events_read_exactly}
use Rattle.event_text.proofs.laws.events_are_read_exactly.Goals as goal

pub returns : goal.returns
returns c = events_read_exactly
