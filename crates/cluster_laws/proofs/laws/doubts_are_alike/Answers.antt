use Rattle.cluster_laws.proofs.DoubtLemmas.{doubts_are_alike}
use Rattle.cluster_laws.proofs.laws.doubts_are_alike.Goals as goal

pub returns : goal.returns
returns c = doubts_are_alike
