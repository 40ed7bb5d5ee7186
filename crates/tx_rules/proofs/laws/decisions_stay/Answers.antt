use Rattle.tx_rules.proofs.LawLemmas.{decisions_stay}
use Rattle.tx_rules.proofs.laws.decisions_stay.Goals as goal

pub returns : goal.returns
returns c = decisions_stay
