use Rattle.mem_laws.proofs.CutLemmas.{reads_are_the_machines}
use Rattle.mem_laws.proofs.laws.reads_are_the_machines.Goals as goal

pub returns : goal.returns
returns c = reads_are_the_machines
