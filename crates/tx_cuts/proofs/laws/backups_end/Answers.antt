use Rattle.tx_cuts.proofs.CaseLemmas.{backups_end}
use Rattle.tx_cuts.proofs.laws.backups_end.Goals as goal

pub returns : goal.returns
returns c = backups_end
