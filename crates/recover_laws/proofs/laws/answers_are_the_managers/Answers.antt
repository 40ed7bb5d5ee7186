use Rattle.recover_laws.proofs.AnswerLemmas.{answers_are_the_managers}
use Rattle.recover_laws.proofs.laws.answers_are_the_managers.Goals as goal

pub returns : goal.returns
returns c = answers_are_the_managers
