use Rattle.coord_laws.proofs.DoneLemmas.{resends_are_the_machines}
use Rattle.coord_laws.proofs.laws.resends_are_the_machines.Goals as goal

pub returns : goal.returns
returns c = resends_are_the_machines
