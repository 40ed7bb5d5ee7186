use Rattle.mem_laws.proofs.MiniLemmas.{minis_read_alike}
use Rattle.mem_laws.proofs.laws.minis_read_alike.Goals as goal

pub returns : goal.returns
returns c = minis_read_alike
