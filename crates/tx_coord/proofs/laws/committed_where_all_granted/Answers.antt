use Rattle.tx_coord.proofs.LawLemmas.{committed_where_all_granted}
use Rattle.tx_coord.proofs.laws.committed_where_all_granted.Goals as goal

pub returns : goal.returns
returns c = committed_where_all_granted
