-- What is at hand once all that an arrival wants was moved from the cache.
use Rattle.std.specs.Prelude.{◌≡◌, ◌<◌, false, List, [], ◌∷◌, ◌++◌, length, Some, None}
use Rattle.node_cache.specs.declared.held.Held.{Held}
use Rattle.node_cache.specs.Cached.{Cached}
use Rattle.plan_rules.specs.Works.{IsTold, IsWorkSet}
use Rattle.node_rules.specs.declared.arrival.Arrival.{Arrival}
use Rattle.node_rules.specs.declared.node_state.NodeState.{NodeState}
use Rattle.node_rules.specs.declared.cause.Why.TheVariants as why
use Rattle.node_rules.specs.declared.output.Output.{Output}
use Rattle.node_rules.specs.declared.output.Output.TheVariants as output
use Rattle.node_rules.specs.declared.running.Running.{Running}
use Rattle.plan_forms.specs.declared.plan.Plan.{Plan}
use Rattle.plan_forms.specs.declared.plan.Plan.TheVariants as plan
use Rattle.node_rules.specs.declared.running.Work.{Work}
use Rattle.node_rules.specs.Plans.{Plans, IsSound, IsWantTold}
use Rattle.node_rules.specs.Begin.{GoesNext, IsPlanned, IsStarted, begun_by, begun_output, fresh, running_with}
use Rattle.node_rules.specs.Order.{IsStockInOrder}
use Rattle.node_rules.specs.Stock.{Stock, gathered, is_cached}

-- the cache has nothing of what is needed
abbrev pub IsLacking : Cached → Plan → Type 0
IsLacking cache (plan.Need w) = is_cached cache w ≡ false
IsLacking cache (plan.Final items answer made changed) = Unit {0}

pub record IsGathered (plans : Plans) (a : Arrival) (s t : Stock) (p : Plan) : Type 0 where
  pub all : t ≡ gathered a s
  pub planned : IsPlanned plans a t.held p
  pub order : IsStockInOrder s.held.geometry t
  pub told : IsWantTold t.held p
  pub sound : IsSound p
  pub lacks : IsLacking t.cache p

-- what is needed can be fetched
abbrev pub IsReady : Held → Plan → Type 0
IsReady held (plan.Need w) = IsWorkSet held × IsTold held w
IsReady held (plan.Final items answer made changed) = Unit {0}

-- it was begun
pub record IsBegun (node : NodeState) (work : Work) (p : Plan) (new : NodeState) (o : Output) : Type 0 where
  pub new_is : new ≡ record node { running = Some (running_with work work.held (begun_by work.held p)) }
  pub output_is : o ≡ begun_output work.arrival.id (begun_by work.held p)

-- a call of the file system is dropped where too many wait, waits where one runs, and else starts
pub data IsAdmitted (plans : Plans) (node : NodeState) (a : Arrival) : NodeState → List Output → Type 0 where
  full : length node.waiting ≡ 32 → IsAdmitted plans node a node (output.Dropped a.id why.Full ∷ [])
  waits : (r : Running) → length node.waiting < 32 → node.running ≡ Some r → IsAdmitted plans node a (record node { waiting = node.waiting ++ a ∷ [] }) []
  starts : (new : NodeState) (o : Output) → length node.waiting < 32 → node.running ≡ None → IsStarted plans node (fresh node.geometry a) new o
      → IsAdmitted plans node a new (o ∷ [])

-- this is told, and the next one starts
pub record GoesNextAfter (plans : Plans) (o : Output) (node new : NodeState) (outputs : List Output) : Type 0 where
  pub rest : List Output
  pub next : GoesNext plans node new rest
  pub outputs_are : outputs ≡ o ∷ rest
