-- Where a transcript begins.
use Rattle.std.specs.Prelude.{List, [], ◌∷◌, Option, Some, None, if◌then◌else◌}
use Rattle.fs_rules.specs.declared.geometry.Geometry.{Geometry}
use Rattle.fs_rules.specs.Geometry.{within_limits}
use Rattle.fs_rules.specs.declared.plain_tree.PlainTree.{PlainTree}
use Rattle.fs_rules.specs.Fresh.{fresh}
use Rattle.mini_tx.specs.declared.actor.Actor.{Actor}
use Rattle.event_text.specs.declared.event.Event.{Event}
use Rattle.event_text.specs.declared.event.Event.TheVariants as event

-- what each line of a schedule says: an event, or nothing where the line is outside the grammar
abbrev pub Schedule : Type 0
Schedule = List (Option Event)

-- the cluster, its tree before the first change, and the actors that are down from the start
pub record Opening : Type 0 where
  pub geometry : Geometry
  pub tree : PlainTree
  pub down : List Actor

-- a cluster within the limits
abbrev pub checked : Geometry → Option Geometry
checked g = if within_limits g then Some g else None

-- the cluster that a line names
abbrev pub cluster_in : Option Event → Option Geometry
cluster_in (Some (event.Cluster nodes memories blocks inodes)) = checked (record { nodes = nodes; memories = memories; blocks = blocks; inodes = inodes })
cluster_in other = None

-- the cluster of a schedule: its first line names it
abbrev pub cluster_of : Schedule → Option Geometry
cluster_of [] = None
cluster_of (line ∷ lines) = cluster_in line

-- the opening of a cluster that was just formatted: the fresh tree, and nobody is down
abbrev pub fresh_opening : Geometry → Opening
fresh_opening g = record { geometry = g; tree = fresh g; down = [] }
