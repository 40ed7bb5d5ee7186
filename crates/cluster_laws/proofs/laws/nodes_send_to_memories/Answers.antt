use Rattle.cluster_laws.proofs.SendingLemmas.{nodes_send_to_memories}
use Rattle.cluster_laws.proofs.laws.nodes_send_to_memories.Goals as goal

pub returns : goal.returns
returns c = nodes_send_to_memories
