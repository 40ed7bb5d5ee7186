use Rattle.tx_actors.proofs.LawLemmas.{reactions_are_allowed}
use Rattle.tx_actors.proofs.laws.reactions_are_allowed.Goals as goal

pub returns : goal.returns
returns c = reactions_are_allowed
