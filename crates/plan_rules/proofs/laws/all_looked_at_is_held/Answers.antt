use Rattle.plan_rules.proofs.OrderLemmas.{all_looked_at_is_held}
use Rattle.plan_rules.proofs.laws.all_looked_at_is_held.Goals as goal

pub returns : goal.returns
returns c = all_looked_at_is_held
