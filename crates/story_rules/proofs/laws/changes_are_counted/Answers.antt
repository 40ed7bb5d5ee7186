use Rattle.story_rules.proofs.CaseLemmas.{changes_are_counted}
use Rattle.story_rules.proofs.laws.changes_are_counted.Goals as goal

pub returns : goal.returns
returns c = changes_are_counted
