use Rattle.coord_laws.proofs.StepLemmas.{starts_are_the_machines}
use Rattle.coord_laws.proofs.laws.starts_are_the_machines.Goals as goal

pub returns : goal.returns
returns c = starts_are_the_machines
