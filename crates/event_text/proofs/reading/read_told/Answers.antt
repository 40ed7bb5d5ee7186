-- What is read so is told so.
use Rattle.event_text.proofs.EventLemmas.{told_answered}
use Rattle.event_text.proofs.reading.read_told.Goals as goal

pub returns-clause-told : goal.returns-clause-told
returns-clause-told c = told_answered c.told_of.result _ _ c.told_of.ensures
