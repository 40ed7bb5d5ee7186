-- A geometry, as trees have it.
use Rattle.fs_rules.specs.declared.geometry.Geometry.{Geometry}
use Rattle.mini_tx.specs.declared.geometry.Geometry4.{Geometry4}

abbrev pub geometry_of : Geometry4 → Geometry
geometry_of g = record { nodes = g.nodes; memories = g.memories; blocks = g.blocks; inodes = g.inodes }
