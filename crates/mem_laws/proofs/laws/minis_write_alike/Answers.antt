use Rattle.mem_laws.proofs.MiniLemmas.{minis_write_alike}
use Rattle.mem_laws.proofs.laws.minis_write_alike.Goals as goal

pub returns : goal.returns
returns c = minis_write_alike
