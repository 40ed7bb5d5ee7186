use Rattle.story_shown.proofs.ImageLemmas.{told_stories_are_flat}
use Rattle.story_shown.proofs.laws.told_stories_are_flat.Goals as goal

pub returns : goal.returns
returns c = told_stories_are_flat
