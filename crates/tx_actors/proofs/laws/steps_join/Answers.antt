use Rattle.tx_actors.proofs.LawLemmas.{steps_join}
use Rattle.tx_actors.proofs.laws.steps_join.Goals as goal

pub returns : goal.returns
returns c = steps_join
