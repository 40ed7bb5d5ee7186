use Rattle.mem_laws.proofs.LoadLemmas.{loaded_nodes_show}
use Rattle.mem_laws.proofs.laws.loaded_nodes_show.Goals as goal

pub returns : goal.returns
returns c = loaded_nodes_show
