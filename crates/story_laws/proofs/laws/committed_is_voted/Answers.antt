use Rattle.story_laws.proofs.CommitLemmas.{committed_is_voted}
use Rattle.story_laws.proofs.laws.committed_is_voted.Goals as goal

pub returns : goal.returns
returns c = committed_is_voted
