use Rattle.tx_rules.proofs.LawLemmas.{locks_stay_apart}
use Rattle.tx_rules.proofs.laws.locks_stay_apart.Goals as goal

pub returns : goal.returns
returns c = locks_stay_apart
