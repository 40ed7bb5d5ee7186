use Rattle.tx_actors.proofs.LawLemmas.{images_are_replayed}
use Rattle.tx_actors.proofs.laws.images_are_replayed.Goals as goal

pub returns : goal.returns
returns c = images_are_replayed
