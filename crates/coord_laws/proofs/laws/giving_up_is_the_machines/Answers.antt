use Rattle.coord_laws.proofs.StepLemmas.{giving_up_is_the_machines}
use Rattle.coord_laws.proofs.laws.giving_up_is_the_machines.Goals as goal

pub returns : goal.returns
returns c = giving_up_is_the_machines
