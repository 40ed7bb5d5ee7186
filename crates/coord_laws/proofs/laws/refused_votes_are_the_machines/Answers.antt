use Rattle.coord_laws.proofs.StepLemmas.{refused_votes_are_the_machines}
use Rattle.coord_laws.proofs.laws.refused_votes_are_the_machines.Goals as goal

pub returns : goal.returns
returns c = refused_votes_are_the_machines
