use Rattle.tx_actors.proofs.RowLemmas.{coordinator_repeats}
use Rattle.tx_actors.proofs.laws.coordinator_repeats.Goals as goal

pub returns : goal.returns
returns c = coordinator_repeats
