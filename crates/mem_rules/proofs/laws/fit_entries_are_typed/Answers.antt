use Rattle.mem_rules.proofs.ReactionLemmas.{entries_typed}
use Rattle.mem_rules.proofs.laws.fit_entries_are_typed.Goals as goal

pub returns : goal.returns
returns c = entries_typed
