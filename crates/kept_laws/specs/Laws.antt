-- That what is kept of a fetch is true.
use Rattle.fs_rules.specs.declared.plain_tree.PlainTree.{PlainTree}
use Rattle.mini_tx.specs.FlatMemory.{Flat, Matches, reads}
use Rattle.node_cache.specs.declared.held.Held.{Held}
use Rattle.node_cache.specs.declared.want.Want.{Want}
use Rattle.plan_rules.specs.Fetched.{IsKept, fetched}
use Rattle.plan_rules.specs.Works.{IsTold, IsWorkSet}
use Rattle.read_laws.specs.Promise.{IsTrueOf}

-- what is held is true of a flat memory that stands for a tree, and the fetch of a part that it tells matches the memory; then
-- what is held is true of the memory once what the fetch read there is kept
abbrev pub KeptIsTrue : Type 0
KeptIsTrue = (held new : Held) (w : Want) (flat : Flat) (t : PlainTree) → IsWorkSet held → IsTold held w → IsTrueOf held flat t
    → Matches (fetched held w) flat → IsKept held w (reads (fetched held w) flat) new → IsTrueOf new flat t
