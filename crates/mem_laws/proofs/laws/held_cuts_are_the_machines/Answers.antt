use Rattle.mem_laws.proofs.CutLemmas.{held_cuts_are_the_machines}
use Rattle.mem_laws.proofs.laws.held_cuts_are_the_machines.Goals as goal

pub returns : goal.returns
returns c = held_cuts_are_the_machines
