use Rattle.tx_rules.proofs.LawLemmas.{reads_are_flat}
use Rattle.tx_rules.proofs.laws.reads_are_flat.Goals as goal

pub returns : goal.returns
returns c = reads_are_flat
