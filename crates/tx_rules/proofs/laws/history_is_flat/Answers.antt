use Rattle.tx_rules.proofs.LawLemmas.{history_is_flat}
use Rattle.tx_rules.proofs.laws.history_is_flat.Goals as goal

pub returns : goal.returns
returns c = history_is_flat
