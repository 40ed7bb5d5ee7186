use Rattle.node_cache.proofs.TruthLemmas.{true_entries_stay}
use Rattle.node_cache.proofs.laws.true_entries_stay.Goals as goal

pub returns : goal.returns
returns c = true_entries_stay
