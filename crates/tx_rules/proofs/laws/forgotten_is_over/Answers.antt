use Rattle.tx_rules.proofs.LawLemmas.{forgotten_is_over}
use Rattle.tx_rules.proofs.laws.forgotten_is_over.Goals as goal

pub returns : goal.returns
returns c = forgotten_is_over
