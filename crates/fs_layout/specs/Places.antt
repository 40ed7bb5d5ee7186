-- Where the parts of an image lie, and the numbers of files.
use Rattle.std.specs.Prelude.{ℕ, ◌+◌, ◌*◌, ◌/◌, ◌≤◌}
use Rattle.fs_layout.specs.declared.layout.Layout.{Layout}
use Rattle.fs_layout.specs.declared.inode_place.InodePlace.{InodePlace}

-- a size that an image may have
pub record IsLayout (l : Layout) : Type 0 where
  pub blocks : l.blocks ≤ 16384
  pub inodes : l.inodes ≤ 16384

-- the superblock, the page of bitmaps, the pages of inode records, and the blocks
abbrev pub image_size : Layout → ℕ
image_size l = 4096 * (2 + (l.inodes + 31) / 32 + l.blocks)

-- the inode record with this index
abbrev pub record_at : ℕ → ℕ
record_at index = 2 * 4096 + 128 * index

-- the block with this number
abbrev pub block_place : Layout → ℕ → ℕ
block_place l block = 4096 * (2 + (l.inodes + 31) / 32 + block)

-- the number of the file whose record has this index on this memory node
abbrev pub number_of : ℕ → ℕ → ℕ
number_of memory inode = 16384 * memory + inode + 1

-- the number of the file whose record is there
abbrev pub file_number : InodePlace → ℕ
file_number p = number_of p.memory p.inode
