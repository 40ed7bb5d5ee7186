use Rattle.tx_rules.proofs.LawLemmas.{promises_are_kept}
use Rattle.tx_rules.proofs.laws.promises_are_kept.Goals as goal

pub returns : goal.returns
returns c = promises_are_kept
