use Rattle.tx_actors.proofs.LawLemmas.{above_is_not_passed}
use Rattle.tx_actors.proofs.laws.above_is_not_passed.Goals as goal

pub returns : goal.returns
returns c = above_is_not_passed
