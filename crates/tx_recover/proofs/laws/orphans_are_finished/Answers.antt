use Rattle.tx_recover.proofs.CaseLemmas.{orphans_are_finished}
use Rattle.tx_recover.proofs.laws.orphans_are_finished.Goals as goal

pub returns : goal.returns
returns c = orphans_are_finished
