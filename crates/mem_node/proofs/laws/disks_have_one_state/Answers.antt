use Rattle.mem_node.proofs.LawLemmas.{one_state}
use Rattle.mem_node.proofs.laws.disks_have_one_state.Goals as goal

pub returns : goal.returns
returns c = one_state
