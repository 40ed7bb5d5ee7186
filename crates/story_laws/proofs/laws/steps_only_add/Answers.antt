use Rattle.story_laws.proofs.GrowthLemmas.{steps_only_add}
use Rattle.story_laws.proofs.laws.steps_only_add.Goals as goal

pub returns : goal.returns
returns c = steps_only_add
