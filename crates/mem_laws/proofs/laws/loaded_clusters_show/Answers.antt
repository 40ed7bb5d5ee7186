use Rattle.mem_laws.proofs.ClusterLemmas.{loaded_clusters_show}
use Rattle.mem_laws.proofs.laws.loaded_clusters_show.Goals as goal

pub returns : goal.returns
returns c = loaded_clusters_show
