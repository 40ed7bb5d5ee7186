use Rattle.story_laws.proofs.GrowthLemmas.{changes_are_granted}
use Rattle.story_laws.proofs.laws.changes_are_granted.Goals as goal

pub returns : goal.returns
returns c = changes_are_granted
