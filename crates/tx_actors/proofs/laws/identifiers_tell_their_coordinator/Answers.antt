use Rattle.tx_actors.proofs.LawLemmas.{identifiers_tell}
use Rattle.tx_actors.proofs.laws.identifiers_tell_their_coordinator.Goals as goal

pub returns : goal.returns
returns c = identifiers_tell
