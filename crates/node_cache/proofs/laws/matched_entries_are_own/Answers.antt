use Rattle.node_cache.proofs.TruthLemmas.{matched_entries_are_own}
use Rattle.node_cache.proofs.laws.matched_entries_are_own.Goals as goal

pub returns : goal.returns
returns c = matched_entries_are_own
