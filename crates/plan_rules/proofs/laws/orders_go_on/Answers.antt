use Rattle.plan_rules.proofs.OrderLemmas.{orders_go_on}
use Rattle.plan_rules.proofs.laws.orders_go_on.Goals as goal

pub returns : goal.returns
returns c = orders_go_on
