use Rattle.tx_coord.proofs.CaseLemmas.{oldest_goes}
use Rattle.tx_coord.proofs.laws.oldest_goes.Goals as goal

pub returns : goal.returns
returns c = oldest_goes
