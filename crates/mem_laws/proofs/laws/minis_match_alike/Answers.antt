use Rattle.mem_laws.proofs.MiniLemmas.{minis_match_alike}
use Rattle.mem_laws.proofs.laws.minis_match_alike.Goals as goal

pub returns : goal.returns
returns c = minis_match_alike
