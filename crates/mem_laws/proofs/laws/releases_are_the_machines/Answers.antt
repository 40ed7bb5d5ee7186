use Rattle.mem_laws.proofs.CutLemmas.{releases_are_the_machines}
use Rattle.mem_laws.proofs.laws.releases_are_the_machines.Goals as goal

pub returns : goal.returns
returns c = releases_are_the_machines
