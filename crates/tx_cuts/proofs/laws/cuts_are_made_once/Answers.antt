use Rattle.tx_cuts.proofs.LawLemmas.{cuts_are_made_once}
use Rattle.tx_cuts.proofs.laws.cuts_are_made_once.Goals as goal

pub returns : goal.returns
returns c = cuts_are_made_once
