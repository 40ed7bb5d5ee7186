use Rattle.mem_laws.proofs.DecideLemmas.{answers}
use Rattle.mem_laws.proofs.laws.answers_are_the_machines.Goals as goal

pub returns : goal.returns
returns c = answers
