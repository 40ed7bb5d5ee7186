use Rattle.tx_recover.proofs.AnswerLemmas.{answers_decide}
use Rattle.tx_recover.proofs.laws.answers_decide.Goals as goal

pub returns : goal.returns
returns c = answers_decide
