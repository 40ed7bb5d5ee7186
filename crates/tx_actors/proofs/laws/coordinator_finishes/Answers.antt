use Rattle.tx_actors.proofs.RowLemmas.{coordinator_finishes}
use Rattle.tx_actors.proofs.laws.coordinator_finishes.Goals as goal

pub returns : goal.returns
returns c = coordinator_finishes
