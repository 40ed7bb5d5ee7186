use Rattle.tx_rules.proofs.LawLemmas.{points_are_the_committed}
use Rattle.tx_rules.proofs.laws.points_are_the_committed.Goals as goal

pub returns : goal.returns
returns c = points_are_the_committed
