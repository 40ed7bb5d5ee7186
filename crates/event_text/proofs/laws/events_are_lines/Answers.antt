use Rattle.event_text.proofs.EventLemmas.{events_one_line}
use Rattle.event_text.proofs.laws.events_are_lines.Goals as goal

pub returns : goal.returns
returns c = events_one_line
