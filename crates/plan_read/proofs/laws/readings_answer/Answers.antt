use Rattle.plan_read.proofs.ReadingLemmas.{readings_answer}
use Rattle.plan_read.proofs.laws.readings_answer.Goals as goal

pub returns : goal.returns
returns c = readings_answer
