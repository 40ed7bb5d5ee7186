use Rattle.story_laws.proofs.CompleteLemmas.{granted_are_changes}
use Rattle.story_laws.proofs.laws.granted_are_changes.Goals as goal

pub returns : goal.returns
returns c = granted_are_changes
