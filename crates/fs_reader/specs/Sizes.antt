-- Images of the sizes of a cluster.
use Rattle.std.specs.Prelude.{◌≡◌, ℕ, ◌<◌, length}
use Rattle.fs_layout.specs.Places.{image_size}
use Rattle.fs_rules.specs.declared.geometry.Geometry.{Geometry}
use Rattle.fs_rules.specs.Geometry.{IsWithinLimits}
use Rattle.mini_tx.specs.FlatMemory.{Flat, held_by}
use Rattle.fs_image.specs.Places.{layout_of}

-- one image for each memory node, each of the size of its blocks and inodes
pub record AreSized (g : Geometry) (flat : Flat) : Type 0 where
  pub limits : IsWithinLimits g
  pub memories : length flat ≡ g.memories
  pub sized : (m : ℕ) → m < g.memories → length (held_by flat m) ≡ image_size (layout_of g)
