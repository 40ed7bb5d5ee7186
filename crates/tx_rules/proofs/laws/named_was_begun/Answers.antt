use Rattle.tx_rules.proofs.LawLemmas.{named_was_begun}
use Rattle.tx_rules.proofs.laws.named_was_begun.Goals as goal

pub returns : goal.returns
returns c = named_was_begun
