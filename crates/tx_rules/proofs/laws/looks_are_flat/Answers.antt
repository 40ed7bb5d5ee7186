use Rattle.tx_rules.proofs.LawLemmas.{looks_are_flat}
use Rattle.tx_rules.proofs.laws.looks_are_flat.Goals as goal

pub returns : goal.returns
returns c = looks_are_flat
