use Rattle.cluster_laws.proofs.DoubtLemmas.{beginnings_are_in_doubt}
use Rattle.cluster_laws.proofs.laws.beginnings_are_in_doubt.Goals as goal

pub returns : goal.returns
returns c = beginnings_are_in_doubt
