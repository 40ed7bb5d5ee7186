use Rattle.tx_rules.proofs.LawLemmas.{decisions_exclude}
use Rattle.tx_rules.proofs.laws.decisions_exclude.Goals as goal

pub returns : goal.returns
returns c = decisions_exclude
