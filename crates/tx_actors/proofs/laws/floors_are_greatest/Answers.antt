use Rattle.tx_actors.proofs.LawLemmas.{floors_are_greatest}
use Rattle.tx_actors.proofs.laws.floors_are_greatest.Goals as goal

pub returns : goal.returns
returns c = floors_are_greatest
