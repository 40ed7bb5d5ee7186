use Rattle.tx_cuts.proofs.SampleLemmas.{opening_ends_well}
use Rattle.tx_cuts.proofs.laws.opening_ends_well.Goals as goal

pub returns : goal.returns
returns c = opening_ends_well
