-- What was read is spelled so, by the law of the grammar.
use Rattle.event_text.specs.Reading.{event_of}
use Rattle.event_text.proofs.EventLemmas.{event_answered}
use Rattle.event_text.proofs.reading.read_line.Goals as goal

pub returns-clause-spelled : goal.returns-clause-spelled
unfolding event_of
returns-clause-spelled c = event_answered c.event_of.result c.args.text.now (rw c.new.ensures at c.event_of.ensures)
