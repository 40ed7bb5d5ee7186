use Rattle.coord_laws.proofs.DoneLemmas.{done_is_the_machines}
use Rattle.coord_laws.proofs.laws.done_is_the_machines.Goals as goal

pub returns : goal.returns
returns c = done_is_the_machines
