-- A node in order: what it has fits together, at each moment at which it waits for an event.
use Rattle.std.specs.Prelude.{◌≡◌, ℕ, ◌<◌, true, false, List, length, Option, Some, None, is_some}
use Rattle.std.specs.List.{AllByRecursion}
use Rattle.fs_rules.specs.declared.geometry.Geometry.{Geometry}
use Rattle.fs_rules.specs.Geometry.{IsWithinLimits}
use Rattle.node_cache.specs.declared.entry.Entry.{Entry}
use Rattle.node_cache.specs.declared.held.Held.{Held}
use Rattle.node_cache.specs.declared.want.Want.{Want}
use Rattle.node_cache.specs.Cached.{Cached, held_of}
use Rattle.plan_rules.specs.Fetched.{fetched}
use Rattle.plan_rules.specs.Works.{IsFitEntry, IsTold, IsWorkSet}
use Rattle.node_rules.specs.declared.arrival.Arrival.{Arrival}
use Rattle.node_rules.specs.declared.attempt.Attempt.{Attempt}
use Rattle.node_rules.specs.declared.attempt.Attempt.TheVariants as attempt
use Rattle.node_rules.specs.declared.node_state.NodeState.{NodeState}
use Rattle.node_rules.specs.declared.running.Running.{Running}
use Rattle.node_rules.specs.declared.running.Work.{Work}
use Rattle.node_rules.specs.Plans.{IsAnswerable, IsServed, read_sizes}
use Rattle.node_rules.specs.Stock.{Stock, is_cached}

-- a map is a page
abbrev pub IsPage : Option (List ℕ) → Type 0
IsPage None = Unit {0}
IsPage (Some page) = length page ≡ 4096

-- a cache is in order: what it has can be held by a work set
pub record IsCacheInOrder (g : Geometry) (cache : Cached) : Type 0 where
  pub entries : AllByRecursion (IsFitEntry g) cache.files
  pub places : length cache.maps ≡ 8
  pub pages : AllByRecursion IsPage cache.maps

-- no file has an entry in a work set and one in the cache
abbrev pub AreApart : Held → Cached → Type 0
AreApart held cache = (n : ℕ) → is_some (held_of n held.entries) ≡ true → held_of n cache.files ≡ None

-- what an arrival can use
pub record IsStockInOrder (g : Geometry) (s : Stock) : Type 0 where
  pub size : s.held.geometry ≡ g
  pub held : IsWorkSet s.held
  pub cache : IsCacheInOrder g s.cache
  pub apart : AreApart s.held s.cache

-- an arrival that is worked on
pub record IsWorkInOrder (g : Geometry) (cache : Cached) (work : Work) : Type 0 where
  pub served : IsServed g work.arrival.call
  pub stock : IsStockInOrder g (record { held = work.held; cache = cache })
  pub few : work.failures < 8

-- what is fetched is told by what is held, the cache has nothing of it, and its items read so much each
pub record IsFetchInOrder (held : Held) (cache : Cached) (w : Want) (sizes : List ℕ) : Type 0 where
  pub told : IsTold held w
  pub lacks : is_cached cache w ≡ false
  pub sized : sizes ≡ read_sizes (fetched held w)

-- and what a final reads can be answered
abbrev pub IsAttemptInOrder : Held → Cached → Attempt → List ℕ → Type 0
IsAttemptInOrder held cache (attempt.Fetch w) sizes = IsFetchInOrder held cache w sizes
IsAttemptInOrder held cache (attempt.Final p) sizes = IsAnswerable sizes p.answer

pub record IsRunningInOrder (g : Geometry) (cache : Cached) (r : Running) : Type 0 where
  pub work : IsWorkInOrder g cache r.work
  pub attempt : IsAttemptInOrder r.work.held cache r.attempt r.sizes

pub record IsInOrder (node : NodeState) : Type 0 where
  pub limits : IsWithinLimits node.geometry
  pub cache : IsCacheInOrder node.geometry node.cache
  pub running : (r : Running) → node.running ≡ Some r → IsRunningInOrder node.geometry node.cache r
  pub waiting : AllByRecursion (λ a. IsServed node.geometry a.call) node.waiting
