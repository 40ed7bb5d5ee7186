use Rattle.tx_cuts.proofs.LawLemmas.{holds_are_still}
use Rattle.tx_cuts.proofs.laws.holds_are_still.Goals as goal

pub returns : goal.returns
returns c = holds_are_still
