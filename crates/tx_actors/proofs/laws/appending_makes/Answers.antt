use Rattle.tx_actors.proofs.AlikeLemmas.{appending_makes}
use Rattle.tx_actors.proofs.laws.appending_makes.Goals as goal

pub returns : goal.returns
returns c = appending_makes
