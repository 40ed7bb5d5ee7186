use Rattle.story_shown.proofs.MessageLemmas.{posted_are_fit}
use Rattle.story_shown.proofs.laws.posted_are_fit.Goals as goal

pub returns : goal.returns
returns c = posted_are_fit
