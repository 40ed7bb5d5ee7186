use Rattle.event_text.proofs.EventLemmas.{events_apart}
use Rattle.event_text.proofs.laws.events_have_their_own_spellings.Goals as goal

pub returns : goal.returns
returns c = events_apart
