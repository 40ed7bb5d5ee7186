use Rattle.tx_actors.proofs.AlikeLemmas.{others_change_nothing}
use Rattle.tx_actors.proofs.laws.others_change_nothing.Goals as goal

pub returns : goal.returns
returns c = others_change_nothing
