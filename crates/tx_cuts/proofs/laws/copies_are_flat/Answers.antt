use Rattle.tx_cuts.proofs.LawLemmas.{copies_are_flat}
use Rattle.tx_cuts.proofs.laws.copies_are_flat.Goals as goal

pub returns : goal.returns
returns c = copies_are_flat
