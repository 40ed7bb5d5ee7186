use Rattle.mem_laws.proofs.DecideLemmas.{decisions}
use Rattle.mem_laws.proofs.laws.decisions_are_the_machines.Goals as goal

pub returns : goal.returns
returns c = decisions
