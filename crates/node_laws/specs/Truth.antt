-- When all that a node holds of files is true of a flat memory, and that it stays so.
use Rattle.std.specs.Prelude.{◌≡◌, ℕ, List, Some}
use Rattle.std.specs.List.{AllByRecursion}
use Rattle.nfs_proto.specs.declared.stamp.Stamp.{Stamp}
use Rattle.nfs_service.specs.declared.request.Request.{Request}
use Rattle.fs_rules.specs.declared.geometry.Geometry.{Geometry}
use Rattle.mini_tx.specs.FlatMemory.{Flat}
use Rattle.fs_image.specs.Owners.{Owners}
use Rattle.node_cache.specs.declared.entry.Entry.{Entry}
use Rattle.node_cache.specs.declared.held.Held.{Held}
use Rattle.node_cache.specs.declared.want.Want.{Want}
use Rattle.node_cache.specs.Truth.{IsTrueEntry}
use Rattle.plan_rules.specs.Fetched.{IsKept}
use Rattle.tx_coord.specs.declared.outcome.Outcome.{Outcome}
use Rattle.tx_coord.specs.declared.outcome.Outcome.TheVariants as outcome
use Rattle.node_rules.specs.declared.attempt.Attempt.TheVariants as attempt
use Rattle.node_rules.specs.declared.node_state.NodeState.{NodeState}
use Rattle.node_rules.specs.declared.output.Output.{Output}
use Rattle.node_rules.specs.declared.running.Running.{Running}
use Rattle.node_rules.specs.declared.running.Work.{Work}
use Rattle.node_rules.specs.Begin.{IsStarted, stock_after}
use Rattle.node_rules.specs.Plans.{Plans}
use Rattle.node_rules.specs.Steps.{Arrives, IsEnded, IsGivenUp}

-- an entry is true of a flat memory whose blocks have these owners
abbrev pub IsTrueOf : Geometry → Flat → Owners → Entry → Type 0
IsTrueOf g flat o e = IsTrueEntry g flat (o.place e.number) e

-- each entry that a node has is: those of its cache, and those of the arrival that runs
pub record HoldsTruth (g : Geometry) (flat : Flat) (o : Owners) (node : NodeState) : Type 0 where
  pub cache : AllByRecursion (IsTrueOf g flat o) node.cache.files
  pub running : (r : Running) → node.running ≡ Some r → AllByRecursion (IsTrueOf g flat o) r.work.held.entries

-- what is held once a part was read is true
abbrev pub EndsTruly : Geometry → Flat → Owners → Running → Outcome → Type 0
EndsTruly g flat o r (outcome.Committed reads) =
    (w : Want) (new : Held) → r.attempt ≡ attempt.Fetch w → IsKept r.work.held w reads new → AllByRecursion (IsTrueOf g flat o) new.entries
EndsTruly g flat o r (outcome.Refused m v) = Unit {0}

-- all that a node holds stays true over each event, and what is planned is planned over true entries
pub record EntriesStayTrue (plans : Plans) : Type 0 where
  pub arrives : (g : Geometry) (flat : Flat) (o : Owners) (node new : NodeState) (id : ℕ) (now : Stamp) (request : Request) (outputs : List Output)
      → HoldsTruth g flat o node → Arrives plans node id now request new outputs → HoldsTruth g flat o new
  pub ended : (g : Geometry) (flat : Flat) (o : Owners) (node new : NodeState) (end : Outcome) (outputs : List Output)
      → HoldsTruth g flat o node → ((r : Running) → node.running ≡ Some r → EndsTruly g flat o r end) → IsEnded plans node end new outputs
      → HoldsTruth g flat o new
  pub given_up : (g : Geometry) (flat : Flat) (o : Owners) (node new : NodeState) (outputs : List Output)
      → HoldsTruth g flat o node → IsGivenUp plans node new outputs → HoldsTruth g flat o new
  pub planned : (g : Geometry) (flat : Flat) (o : Owners) (node new : NodeState) (work : Work) (output : Output)
      → AllByRecursion (IsTrueOf g flat o) node.cache.files → AllByRecursion (IsTrueOf g flat o) work.held.entries
      → IsStarted plans node work new output → AllByRecursion (IsTrueOf g flat o) (stock_after node work).held.entries
