use Rattle.mem_rules.proofs.ReactionLemmas.{reactions_fit}
use Rattle.mem_rules.proofs.laws.reactions_are_fit.Goals as goal

pub returns : goal.returns
returns c = reactions_fit
