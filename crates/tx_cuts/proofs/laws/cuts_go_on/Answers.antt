use Rattle.tx_cuts.proofs.CaseLemmas.{cuts_go_on}
use Rattle.tx_cuts.proofs.laws.cuts_go_on.Goals as goal

pub returns : goal.returns
returns c = cuts_go_on
