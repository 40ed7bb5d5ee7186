use Rattle.tx_cuts.proofs.ProjectionLemmas.{whole_steps_join}
use Rattle.tx_cuts.proofs.laws.whole_steps_join.Goals as goal

pub returns : goal.returns
returns c = whole_steps_join
