use Rattle.cluster_laws.proofs.ReactionLemmas.{copies_stay}
use Rattle.cluster_laws.proofs.laws.copies_stay.Goals as goal

pub returns : goal.returns
returns c = copies_stay
