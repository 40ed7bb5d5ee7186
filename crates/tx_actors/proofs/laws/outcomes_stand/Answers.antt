use Rattle.tx_actors.proofs.LawLemmas.{outcomes_stand}
use Rattle.tx_actors.proofs.laws.outcomes_stand.Goals as goal

pub returns : goal.returns
returns c = outcomes_stand
