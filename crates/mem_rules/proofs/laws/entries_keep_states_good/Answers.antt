use Rattle.mem_rules.proofs.GoodLemmas.{good_after}
use Rattle.mem_rules.proofs.laws.entries_keep_states_good.Goals as goal

pub returns : goal.returns
returns c = good_after
