use Rattle.tx_recover.proofs.WorkLemmas.{at_most_64_are_at_work}
use Rattle.tx_recover.proofs.laws.at_most_64_are_at_work.Goals as goal

pub returns : goal.returns
returns c = at_most_64_are_at_work
