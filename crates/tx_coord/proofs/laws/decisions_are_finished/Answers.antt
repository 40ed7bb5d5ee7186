use Rattle.tx_coord.proofs.CaseLemmas.{decisions_are_finished}
use Rattle.tx_coord.proofs.laws.decisions_are_finished.Goals as goal

pub returns : goal.returns
returns c = decisions_are_finished
