use Rattle.mem_laws.proofs.CutLemmas.{listed_cuts_are_the_machines}
use Rattle.mem_laws.proofs.laws.listed_cuts_are_the_machines.Goals as goal

pub returns : goal.returns
returns c = listed_cuts_are_the_machines
