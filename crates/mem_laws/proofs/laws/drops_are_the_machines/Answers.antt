use Rattle.mem_laws.proofs.CutLemmas.{drops_are_the_machines}
use Rattle.mem_laws.proofs.laws.drops_are_the_machines.Goals as goal

pub returns : goal.returns
returns c = drops_are_the_machines
