use Rattle.tx_cuts.proofs.LawLemmas.{opens_again}
use Rattle.tx_cuts.proofs.laws.opens_again.Goals as goal

pub returns : goal.returns
returns c = opens_again
