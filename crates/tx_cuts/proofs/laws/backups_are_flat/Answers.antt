use Rattle.tx_cuts.proofs.WholeLemmas.{backups_are_flat}
use Rattle.tx_cuts.proofs.laws.backups_are_flat.Goals as goal

pub returns : goal.returns
returns c = backups_are_flat
