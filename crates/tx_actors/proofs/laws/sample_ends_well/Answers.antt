use Rattle.tx_actors.proofs.LawLemmas.{sample_ends_well}
use Rattle.tx_actors.proofs.laws.sample_ends_well.Goals as goal

pub returns : goal.returns
returns c = sample_ends_well
