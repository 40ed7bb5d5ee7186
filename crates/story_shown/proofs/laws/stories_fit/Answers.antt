use Rattle.story_shown.proofs.FitLemmas.{stories_fit}
use Rattle.story_shown.proofs.laws.stories_fit.Goals as goal

pub returns : goal.returns
returns c = stories_fit
