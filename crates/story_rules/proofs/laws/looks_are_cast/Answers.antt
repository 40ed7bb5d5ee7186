use Rattle.story_rules.proofs.CaseLemmas.{looks_are_cast}
use Rattle.story_rules.proofs.laws.looks_are_cast.Goals as goal

pub returns : goal.returns
returns c = looks_are_cast
