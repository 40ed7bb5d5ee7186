use Rattle.fs_rules.specs.declared.geometry.Geometry.{Geometry}
use Rattle.fs_image.specs.Owners.{Owners}
use Rattle.mini_tx.specs.FlatMemory.{Flat}
use Rattle.node_rules.specs.declared.node_state.NodeState.{NodeState}
use Rattle.node_rules.specs.declared.running.Running.{Running}
use Rattle.tx_coord.specs.declared.outcome.Outcome.{Outcome}
use Rattle.tx_coord.specs.declared.outcome.Outcome.TheVariants as outcome
use Rattle.node_laws.specs.Truth.{EndsTruly, HoldsTruth, IsTrueOf}
use Rattle.node_laws.proofs.HasLemmas.{KeepsIt, NodeHas, arrives_has, ended_has, given_up_has, stock_has}
use Rattle.node_laws.proofs.laws.entries_stay_true.Goals as goal

module _ (g : Geometry) (flat : Flat) (o : Owners) where
  into : (node : NodeState) → HoldsTruth g flat o node → NodeHas (IsTrueOf g flat o) node
  into node have = record { cache = have.cache; running = have.running }

  out : (node : NodeState) → NodeHas (IsTrueOf g flat o) node → HoldsTruth g flat o node
  out node have = record { cache = have.cache; running = have.running }

pub returns : goal.returns
returns gen c = record {
  arrives = λ g flat o node new id now request outputs have step.
      out g flat o new (arrives_has (IsTrueOf g flat o) gen.P.Planner.plans node new id now request outputs (into g flat o node have) step);
  ended = λ g flat o node new end outputs have keeps step.
      out g flat o new (ended_has (IsTrueOf g flat o) gen.P.Planner.plans node new end outputs (into g flat o node have) (λ r is. keeps_it g flat o r end (keeps r is)) step);
  given_up = λ g flat o node new outputs have step.
      out g flat o new (given_up_has (IsTrueOf g flat o) gen.P.Planner.plans node new outputs (into g flat o node have) step);
  planned = λ g flat o node new work output files entries step. (stock_has (IsTrueOf g flat o) node work files entries).0;
}
  where
    keeps_it : (g : Geometry) (flat : Flat) (o : Owners) (r : Running) (end : Outcome) → EndsTruly g flat o r end → KeepsIt (IsTrueOf g flat o) gen.P.Planner.plans r end
    keeps_it g flat o r (outcome.Committed reads) it = it
    keeps_it g flat o r (outcome.Refused m v) it = it
