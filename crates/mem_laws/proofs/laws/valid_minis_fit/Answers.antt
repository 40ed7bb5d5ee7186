use Rattle.mem_laws.proofs.MiniLemmas.{valid_minis_fit}
use Rattle.mem_laws.proofs.laws.valid_minis_fit.Goals as goal

pub returns : goal.returns
returns c = valid_minis_fit
