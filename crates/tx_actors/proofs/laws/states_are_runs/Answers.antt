use Rattle.tx_actors.proofs.LawLemmas.{states_are_runs}
use Rattle.tx_actors.proofs.laws.states_are_runs.Goals as goal

pub returns : goal.returns
returns c = states_are_runs
