use Rattle.cluster_laws.proofs.DoubtLemmas.{counts_keep_doubts}
use Rattle.cluster_laws.proofs.laws.counts_keep_doubts.Goals as goal

pub returns : goal.returns
returns c = counts_keep_doubts
