use Rattle.tx_actors.proofs.RowLemmas.{orphan}
use Rattle.tx_actors.proofs.laws.orphan.Goals as goal

pub returns : goal.returns
returns c = orphan
