use Rattle.tx_actors.proofs.LawLemmas.{outcomes_stay}
use Rattle.tx_actors.proofs.laws.outcomes_stay.Goals as goal

pub returns : goal.returns
returns c = outcomes_stay
