-- The flat memory of a cluster that was just formatted.
use Rattle.std.specs.Prelude.{map}
use Rattle.std.specs.List.{range_with_len}
use Rattle.fs_rules.specs.declared.geometry.Geometry.{Geometry}
use Rattle.fs_rules.specs.Geometry.{IsWithinLimits}
use Rattle.fs_rules.specs.Fresh.{fresh}
use Rattle.mini_tx.specs.declared.geometry.Geometry4.{Geometry4}
use Rattle.mini_tx.specs.FlatMemory.{Flat}
use Rattle.mini_tx.specs.FreshImages.{fresh_image}
use Rattle.fs_image.specs.Stands.{Stands}

-- the same geometry, as minitransactions have it
abbrev pub geometry4 : Geometry → Geometry4
geometry4 g = record { nodes = g.nodes; memories = g.memories; blocks = g.blocks; inodes = g.inodes }

abbrev pub fresh_memory : Geometry → Flat
fresh_memory g = map (fresh_image (geometry4 g)) (range_with_len 0 g.memories)

-- a cluster that was just formatted stands for the fresh tree
abbrev pub FreshStands : Type 0
FreshStands = (g : Geometry) → IsWithinLimits g → Stands (fresh_memory g) (fresh g)
