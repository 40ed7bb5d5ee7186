use Rattle.node_cache.proofs.TruthLemmas.{edits_keep_entries}
use Rattle.node_cache.proofs.laws.edits_keep_entries.Goals as goal

pub returns : goal.returns
returns c = edits_keep_entries
