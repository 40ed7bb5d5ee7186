use Rattle.tx_actors.proofs.LawLemmas.{records_are_kept}
use Rattle.tx_actors.proofs.laws.records_are_kept.Goals as goal

pub returns : goal.returns
returns c = records_are_kept
