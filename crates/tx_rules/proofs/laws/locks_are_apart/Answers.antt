use Rattle.tx_rules.proofs.LawLemmas.{locks_are_apart}
use Rattle.tx_rules.proofs.laws.locks_are_apart.Goals as goal

pub returns : goal.returns
returns c = locks_are_apart
