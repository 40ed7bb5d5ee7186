use Rattle.mem_laws.proofs.CutLemmas.{holds_are_the_machines}
use Rattle.mem_laws.proofs.laws.holds_are_the_machines.Goals as goal

pub returns : goal.returns
returns c = holds_are_the_machines
