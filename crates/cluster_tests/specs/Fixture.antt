-- What the tests of a cluster share.
use Rattle.std.specs.Prelude.{◌≡◌, ℕ, List, Some}
use Rattle.disk_model.specs.declared.disk.Disk.{Ghosts}
use Rattle.disk_model.specs.Plan.{Plan, plan_history, plan_health}
use Rattle.disk_model.specs.Shelf.{IsAtRest, Stock, disk_at}
use Rattle.mini_tx.specs.declared.geometry.Geometry4.{Geometry4}
use Rattle.mini_tx.specs.declared.posted.Posted.{Posted}
use Rattle.story_rules.specs.Story.{Story}
use Rattle.sinfonia.specs.Clusters.{StandsFor, geometry_in}
use Rattle.sinfonia.specs.declared.cluster.Cluster.{Cluster}

-- two nodes and two memory nodes of one block and one inode
abbrev pub pair : Geometry4
pair = record { nodes = 2; memories = 2; blocks = 1; inodes = 1 }

-- a cluster of this geometry in which memory did not run out
pub record IsReady {D L : Type 0} {G : Ghosts D} (stands : L → List Posted → Type 0) (cluster : Cluster D L G) : Type 0 where
  pub geometry : geometry_in cluster ≡ pair
  pub known : (story : Story) × StandsFor stands cluster story

-- the disks that lie on a shelf are at rest
abbrev pub AreAtRest : Stock → Type 0
AreAtRest stock = (k : ℕ) (disk : Plan) → disk_at stock.disks k ≡ Some disk → IsAtRest plan_history plan_health disk
