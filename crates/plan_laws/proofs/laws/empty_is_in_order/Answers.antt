use Rattle.plan_laws.proofs.KeptLemmas.{empty_is_in_order}
use Rattle.plan_laws.proofs.laws.empty_is_in_order.Goals as goal

pub returns : goal.returns
returns c = empty_is_in_order
