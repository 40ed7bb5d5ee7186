use Rattle.tx_actors.proofs.LawLemmas.{committed_reads_are_flat}
use Rattle.tx_actors.proofs.laws.committed_reads_are_flat.Goals as goal

pub returns : goal.returns
returns c = committed_reads_are_flat
