use Rattle.coord_laws.proofs.StepLemmas.{granted_votes_are_the_machines}
use Rattle.coord_laws.proofs.laws.granted_votes_are_the_machines.Goals as goal

pub returns : goal.returns
returns c = granted_votes_are_the_machines
