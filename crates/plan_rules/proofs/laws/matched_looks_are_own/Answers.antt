use Rattle.plan_rules.proofs.MatchedLemmas.{matched_looks_are_own}
use Rattle.plan_rules.proofs.laws.matched_looks_are_own.Goals as goal

pub returns : goal.returns
returns c = matched_looks_are_own
