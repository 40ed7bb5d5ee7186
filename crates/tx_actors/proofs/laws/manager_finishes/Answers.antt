use Rattle.tx_actors.proofs.RowLemmas.{manager_finishes}
use Rattle.tx_actors.proofs.laws.manager_finishes.Goals as goal

pub returns : goal.returns
returns c = manager_finishes
