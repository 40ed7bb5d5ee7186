-- How a minitransaction is begun for an arrival.
use Rattle.std.specs.Prelude.{◌≡◌, ℕ, ◌&&◌, nat_le, nat_lt, Bool, false, List, [], ◌∷◌, map, filter, Option, Some, None}
use Rattle.mini_tx.specs.declared.item.Item.{Item}
use Rattle.mini_tx.specs.declared.item.Item.TheVariants as item
use Rattle.mini_tx.specs.Minitransactions.{memory_of, place_of}
use Rattle.fs_rules.specs.declared.geometry.Geometry.{Geometry}
use Rattle.node_cache.specs.declared.held.Held.{Held}
use Rattle.node_cache.specs.declared.want.Want.{Want}
use Rattle.plan_rules.specs.Fetched.{fetched}
use Rattle.node_rules.specs.declared.arrival.Arrival.{Arrival}
use Rattle.node_rules.specs.declared.attempt.Attempt.{Attempt}
use Rattle.node_rules.specs.declared.attempt.Attempt.TheVariants as attempt
use Rattle.node_rules.specs.declared.node_state.NodeState.{NodeState}
use Rattle.node_rules.specs.declared.output.Output.{Output}
use Rattle.node_rules.specs.declared.output.Output.TheVariants as output
use Rattle.plan_forms.specs.declared.plan.Plan.{Plan}
use Rattle.plan_forms.specs.declared.plan.Plan.TheVariants as plan
use Rattle.node_rules.specs.declared.running.Running.{Running}
use Rattle.node_rules.specs.declared.running.Work.{Work}
use Rattle.node_rules.specs.Plans.{Plans, read_sizes, want_of}
use Rattle.node_rules.specs.Stock.{Stock, empty_held, gathered, wanted_by}

-- an item that writes maps: they lie in the second page
abbrev pub writes_map : Item → Bool
writes_map (item.Compare memory at bytes) = false
writes_map (item.Read memory at len) = false
writes_map (item.Write memory at bytes) = nat_le 4096 at && nat_lt at 8192

-- the memory nodes whose maps are written
abbrev pub written : List Item → List ℕ
written items = map memory_of (filter writes_map items)

-- what is begun: its items, the file that it makes, and what it is for
pub record Begun : Type 0 where
  pub items : List Item
  pub made : Option (ℕ × ℕ)
  pub attempt : Attempt

-- by a plan over this work set: the fetch of the part that is needed, or the final
abbrev pub begun_by : Held → Plan → Begun
begun_by held (plan.Need w) = record { items = fetched held w; made = None; attempt = attempt.Fetch w }
begun_by held (plan.Final items answer made changed) =
    record { items = items; made = made; attempt = attempt.Final (record { answer = answer; changed = changed; written = written items }) }

-- it is planned for an arrival that has this work set: what it needs is what the arrival wants next
pub record IsPlanned (plans : Plans) (a : Arrival) (held : Held) (p : Plan) : Type 0 where
  pub needs : want_of p ≡ wanted_by a held
  pub planned : plans held a.call a.cred a.now a.id p

-- what an arrival can use
abbrev pub stock_of : NodeState → Work → Stock
stock_of node work = record { held = work.held; cache = node.cache }

-- the arrival once this was begun for it
abbrev pub running_with : Work → Held → Begun → Running
running_with work held b =
    record { work = record work { held = held }; attempt = b.attempt; places = map place_of b.items; sizes = read_sizes b.items }

-- what it can use once all that it wants and the cache has was moved
abbrev pub stock_after : NodeState → Work → Stock
stock_after node work = gathered work.arrival (stock_of node work)

-- what the caller is to begin
abbrev pub begun_output : ℕ → Begun → Output
begun_output id b = output.Start id b.items b.made

-- an arrival goes on: what it wants is moved from the cache, and then what is planned is begun for it
pub record IsStarted (plans : Plans) (node : NodeState) (work : Work) (new : NodeState) (o : Output) : Type 0 where
  pub plan : Plan
  pub planned : IsPlanned plans work.arrival (stock_after node work).held plan
  pub new_is : new ≡ record node {
    cache = (stock_after node work).cache;
    running = Some (running_with work (stock_after node work).held (begun_by (stock_after node work).held plan));
  }
  pub output_is : o ≡ begun_output work.arrival.id (begun_by (stock_after node work).held plan)

-- an arrival as it starts
abbrev pub fresh : Geometry → Arrival → Work
fresh g a = record { arrival = a; held = empty_held g; failures = 0 }

-- where none runs any more the one that came first starts, if any waits
pub data GoesNext (plans : Plans) (node : NodeState) : NodeState → List Output → Type 0 where
  idle : node.waiting ≡ [] → GoesNext plans node (record node { running = None }) []
  next : (a : Arrival) (rest : List Arrival) (new : NodeState) (o : Output) → node.waiting ≡ a ∷ rest
      → IsStarted plans (record node { running = None; waiting = rest }) (fresh node.geometry a) new o → GoesNext plans node new (o ∷ [])
