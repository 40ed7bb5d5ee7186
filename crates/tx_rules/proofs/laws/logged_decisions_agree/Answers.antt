use Rattle.tx_rules.proofs.LawLemmas.{logged_decisions_agree}
use Rattle.tx_rules.proofs.laws.logged_decisions_agree.Goals as goal

pub returns : goal.returns
returns c = logged_decisions_agree
