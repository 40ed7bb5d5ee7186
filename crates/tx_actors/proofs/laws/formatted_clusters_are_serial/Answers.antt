use Rattle.tx_actors.proofs.HeadlineLemmas.{formatted_clusters_are_serial}
use Rattle.tx_actors.proofs.laws.formatted_clusters_are_serial.Goals as goal

pub returns : goal.returns
returns c = formatted_clusters_are_serial
