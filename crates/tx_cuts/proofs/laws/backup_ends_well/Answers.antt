use Rattle.tx_cuts.proofs.SampleLemmas.{backup_ends_well}
use Rattle.tx_cuts.proofs.laws.backup_ends_well.Goals as goal

pub returns : goal.returns
returns c = backup_ends_well
