use Rattle.mem_rules.proofs.GoodLemmas.{opened_good}
use Rattle.mem_rules.proofs.laws.opened_states_are_good.Goals as goal

pub returns : goal.returns
returns c = opened_good
