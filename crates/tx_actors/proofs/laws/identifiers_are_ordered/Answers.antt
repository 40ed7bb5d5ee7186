use Rattle.tx_actors.proofs.LawLemmas.{identifiers_are_ordered}
use Rattle.tx_actors.proofs.laws.identifiers_are_ordered.Goals as goal

pub returns : goal.returns
returns c = identifiers_are_ordered
