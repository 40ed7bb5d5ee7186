use Rattle.story_laws.proofs.ActLemmas.{told_stories_hold}
use Rattle.story_laws.proofs.laws.told_stories_hold.Goals as goal

pub returns : goal.returns
returns c = told_stories_hold
