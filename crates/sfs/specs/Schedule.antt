-- The cluster of a schedule.
use Rattle.std.specs.Prelude.{if◌then◌else◌, [], ◌∷◌, Option, Some, None}
use Rattle.fs_rules.specs.declared.geometry.Geometry.{Geometry}
use Rattle.fs_rules.specs.Geometry.{within_limits}
use Rattle.event_text.specs.declared.event.Event.{Event}
use Rattle.event_text.specs.declared.event.Event.TheVariants.{Cluster}
pub use Rattle.line_stream.specs.Schedule.{Schedule, event_in, schedule_of}

-- a cluster within the limits
abbrev pub checked : Geometry → Option Geometry
checked g = if within_limits g then Some g else None

-- the cluster that a line names
abbrev pub cluster_in : Option Event → Option Geometry
cluster_in (Some (Cluster nodes memories blocks inodes)) = checked (record { nodes = nodes; memories = memories; blocks = blocks; inodes = inodes })
cluster_in other = None

-- the cluster of a schedule: its first line names it
abbrev pub cluster_of : Schedule → Option Geometry
cluster_of [] = None
cluster_of (line ∷ lines) = cluster_in line
