use Rattle.tx_rules.proofs.LawLemmas.{images_are_flat}
use Rattle.tx_rules.proofs.laws.images_are_flat.Goals as goal

pub returns : goal.returns
returns c = images_are_flat
