use Rattle.tx_actors.proofs.LawLemmas.{numbers_stay}
use Rattle.tx_actors.proofs.laws.numbers_stay.Goals as goal

pub returns : goal.returns
returns c = numbers_stay
