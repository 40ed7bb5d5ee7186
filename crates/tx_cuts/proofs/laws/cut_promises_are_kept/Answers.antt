use Rattle.tx_cuts.proofs.LawLemmas.{cut_promises_are_kept}
use Rattle.tx_cuts.proofs.laws.cut_promises_are_kept.Goals as goal

pub returns : goal.returns
returns c = cut_promises_are_kept
