use Rattle.story_laws.proofs.OutcomeLemmas.{committed_is_a_change}
use Rattle.story_laws.proofs.laws.committed_is_a_change.Goals as goal

pub returns : goal.returns
returns c = committed_is_a_change
