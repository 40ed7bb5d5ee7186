use Rattle.mem_laws.proofs.MiniLemmas.{minis_are_told}
use Rattle.mem_laws.proofs.laws.minis_are_told.Goals as goal

pub returns : goal.returns
returns c = minis_are_told
