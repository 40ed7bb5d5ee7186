use Rattle.cluster_laws.proofs.ReactionLemmas.{answers_tell_grants}
use Rattle.cluster_laws.proofs.laws.answers_tell_grants.Goals as goal

pub returns : goal.returns
returns c = answers_tell_grants
