-- What an image holds beside records and blocks.
use Rattle.std.specs.Prelude.{◌≡◌, ℕ, ◌-◌, ◌<◌, ◌≤◌, false, List, replicate}
use Rattle.fs_bitmap.specs.Bits.{is_used}
use Rattle.fs_image.specs.Places.{layout_of}
use Rattle.fs_layout.specs.declared.superblock.Superblock.{Superblock}
use Rattle.fs_layout.specs.Places.{block_place, record_at}
use Rattle.fs_layout.specs.Superblocks.{SpellsSuperblock}
use Rattle.fs_rules.specs.declared.geometry.Geometry.{Geometry}
use Rattle.mini_tx.specs.FlatMemory.{bytes_at}

-- what the first page of a memory node tells
abbrev pub superblock_of : Geometry → ℕ → Superblock
superblock_of g m = record { memory = m; memories = g.memories; blocks = g.blocks; inodes = g.inodes }

-- the bits of a map from one on are free
abbrev pub AreFreeFrom : List ℕ → ℕ → Type 0
AreFreeFrom map from = (k : ℕ) → from ≤ k → k < 16384 → is_used map k ≡ false

-- nothing stands behind the last bits and the last record
abbrev pub HasZeros : Geometry → List ℕ → Type 0
HasZeros g bytes =
    (AreFreeFrom (bytes_at bytes 4096 2048) g.blocks × AreFreeFrom (bytes_at bytes 6144 2048) g.inodes)
    × (bytes_at bytes (record_at g.inodes) (block_place (layout_of g) 0 - record_at g.inodes) ≡ replicate (block_place (layout_of g) 0 - record_at g.inodes) 0)

abbrev pub IsFilled : Geometry → ℕ → List ℕ → Type 0
IsFilled g m bytes = SpellsSuperblock (superblock_of g m) (bytes_at bytes 0 4096) × HasZeros g bytes
