use Rattle.tx_rules.proofs.LawLemmas.{votes_commit}
use Rattle.tx_rules.proofs.laws.votes_commit.Goals as goal

pub returns : goal.returns
returns c = votes_commit
