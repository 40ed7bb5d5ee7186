use Rattle.tx_cuts.proofs.ProjectionLemmas.{wholes_are_states}
use Rattle.tx_cuts.proofs.laws.wholes_are_states.Goals as goal

pub returns : goal.returns
returns c = wholes_are_states
