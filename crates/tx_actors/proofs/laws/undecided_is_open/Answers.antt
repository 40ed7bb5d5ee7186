use Rattle.tx_actors.proofs.LawLemmas.{undecided_is_open}
use Rattle.tx_actors.proofs.laws.undecided_is_open.Goals as goal

pub returns : goal.returns
returns c = undecided_is_open
