use Rattle.tx_rules.proofs.LawLemmas.{beginnings_are_new}
use Rattle.tx_rules.proofs.laws.beginnings_are_new.Goals as goal

pub returns : goal.returns
returns c = beginnings_are_new
