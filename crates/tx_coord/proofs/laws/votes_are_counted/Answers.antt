use Rattle.tx_coord.proofs.CaseLemmas.{votes_are_counted}
use Rattle.tx_coord.proofs.laws.votes_are_counted.Goals as goal

pub returns : goal.returns
returns c = votes_are_counted
