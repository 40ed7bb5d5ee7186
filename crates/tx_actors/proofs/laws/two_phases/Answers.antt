use Rattle.tx_actors.proofs.RowLemmas.{two_phases}
use Rattle.tx_actors.proofs.laws.two_phases.Goals as goal

pub returns : goal.returns
returns c = two_phases
