use Rattle.mem_laws.proofs.StepLemmas.{step_is}
use Rattle.mem_laws.proofs.laws.reactions_are_the_machines.Goals as goal

pub returns : goal.returns
returns c = step_is
