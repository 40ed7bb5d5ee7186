-- Work sets stay in order.
use Rattle.std.specs.Prelude.{ℕ, List, [], replicate, None}
use Rattle.fs_rules.specs.declared.geometry.Geometry.{Geometry}
use Rattle.fs_rules.specs.Geometry.{IsWithinLimits}
use Rattle.node_cache.specs.declared.held.Held.{Held}
use Rattle.node_cache.specs.declared.want.Want.{Want}
use Rattle.plan_rules.specs.Fetched.{AreReads, IsKept, fetched}
use Rattle.plan_rules.specs.Works.{IsTold, IsWorkSet}

-- the empty work set of a cluster
abbrev pub nothing_held : Geometry → Held
nothing_held g = record { geometry = g; entries = []; maps = replicate g.memories None }

-- is in order
abbrev pub EmptyIsInOrder : Type 0
EmptyIsInOrder = (g : Geometry) → IsWithinLimits g → IsWorkSet (nothing_held g)

-- a work set in order is in order again once a part that it tells was read and is held
abbrev pub KeptIsInOrder : Type 0
KeptIsInOrder = (held new : Held) (w : Want) (reads : List (List ℕ)) → IsWorkSet held → IsTold held w → AreReads (fetched held w) reads → IsKept held w reads new → IsWorkSet new
