use Rattle.story_shown.proofs.FitLemmas.{prepares_are_told}
use Rattle.story_shown.proofs.laws.prepares_are_told.Goals as goal

pub returns : goal.returns
returns c = prepares_are_told
