use Rattle.mem_laws.proofs.StateLemmas.{state_is}
use Rattle.mem_laws.proofs.laws.states_are_the_machines.Goals as goal

pub returns : goal.returns
returns c = state_is
