use Rattle.mem_laws.proofs.LeaveLemmas.{forgetting_leaves_same}
use Rattle.mem_laws.proofs.laws.forgetting_leaves_the_same.Goals as goal

pub returns : goal.returns
returns c = forgetting_leaves_same
