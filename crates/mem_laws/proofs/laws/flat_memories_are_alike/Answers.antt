use Rattle.mem_laws.proofs.MiniLemmas.{flat_memories_are_alike}
use Rattle.mem_laws.proofs.laws.flat_memories_are_alike.Goals as goal

pub returns : goal.returns
returns c = flat_memories_are_alike
