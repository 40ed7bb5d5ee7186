use Rattle.plan_laws.proofs.KeptLemmas.{kept_is_in_order}
use Rattle.plan_laws.proofs.laws.kept_is_in_order.Goals as goal

pub returns : goal.returns
returns c = kept_is_in_order
