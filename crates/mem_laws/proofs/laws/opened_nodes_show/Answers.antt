use Rattle.mem_laws.proofs.StateLemmas.{opened_shows}
use Rattle.mem_laws.proofs.laws.opened_nodes_show.Goals as goal

pub returns : goal.returns
returns c = opened_shows
