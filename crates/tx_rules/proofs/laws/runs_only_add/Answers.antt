use Rattle.tx_rules.proofs.LawLemmas.{runs_only_add}
use Rattle.tx_rules.proofs.laws.runs_only_add.Goals as goal

pub returns : goal.returns
returns c = runs_only_add
