use Rattle.story_rules.proofs.CaseLemmas.{crashes_are_told}
use Rattle.story_rules.proofs.laws.crashes_are_told.Goals as goal

pub returns : goal.returns
returns c = crashes_are_told
