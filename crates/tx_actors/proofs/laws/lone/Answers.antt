use Rattle.tx_actors.proofs.RowLemmas.{lone_case}
use Rattle.tx_actors.proofs.laws.lone.Goals as goal

pub returns : goal.returns
returns c = lone_case
