use Rattle.mem_node.proofs.LawLemmas.{broken_none}
use Rattle.mem_node.proofs.laws.broken_disks_have_none.Goals as goal

pub returns : goal.returns
returns c = broken_none
