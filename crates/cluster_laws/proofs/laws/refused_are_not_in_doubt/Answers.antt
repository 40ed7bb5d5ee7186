use Rattle.cluster_laws.proofs.DoubtLemmas.{refused_are_not_in_doubt}
use Rattle.cluster_laws.proofs.laws.refused_are_not_in_doubt.Goals as goal

pub returns : goal.returns
returns c = refused_are_not_in_doubt
