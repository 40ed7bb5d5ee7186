use Rattle.tx_actors.proofs.RowLemmas.{limits_are_kept}
use Rattle.tx_actors.proofs.laws.limits_are_kept.Goals as goal

pub returns : goal.returns
returns c = limits_are_kept
