use Rattle.coord_laws.proofs.StepLemmas.{beginnings_are_the_machines}
use Rattle.coord_laws.proofs.laws.beginnings_are_the_machines.Goals as goal

pub returns : goal.returns
returns c = beginnings_are_the_machines
