use Rattle.story_laws.proofs.ActLemmas.{stories_go_on}
use Rattle.story_laws.proofs.laws.stories_go_on.Goals as goal

pub returns : goal.returns
returns c = stories_go_on
