use Rattle.tx_rules.proofs.LawLemmas.{unlocked_is_flat}
use Rattle.tx_rules.proofs.laws.unlocked_is_flat.Goals as goal

pub returns : goal.returns
returns c = unlocked_is_flat
