use Rattle.mem_laws.proofs.DecideLemmas.{forgetting}
use Rattle.mem_laws.proofs.laws.forgetting_is_the_machines.Goals as goal

pub returns : goal.returns
returns c = forgetting
