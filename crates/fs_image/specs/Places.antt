-- Where the parts of a flat memory lie.
use Rattle.std.specs.Prelude.{ℕ, ◌-◌, List}
use Rattle.fs_layout.specs.declared.layout.Layout.{Layout}
use Rattle.fs_layout.specs.declared.reference.Reference.{Reference}
use Rattle.fs_layout.specs.Places.{record_at, block_place}
use Rattle.fs_rules.specs.declared.geometry.Geometry.{Geometry}
use Rattle.mini_tx.specs.FlatMemory.{Flat, held_by, bytes_at}

abbrev pub layout_of : Geometry → Layout
layout_of g = record { blocks = g.blocks; inodes = g.inodes }

-- the first page of a memory node
abbrev pub first_page : Flat → ℕ → List ℕ
first_page flat m = bytes_at (held_by flat m) 0 4096

-- the map of its blocks and that of its inodes
abbrev pub block_map : Flat → ℕ → List ℕ
block_map flat m = bytes_at (held_by flat m) 4096 2048

abbrev pub inode_map : Flat → ℕ → List ℕ
inode_map flat m = bytes_at (held_by flat m) 6144 2048

-- the record of an inode
abbrev pub inode_bytes : Flat → ℕ → ℕ → List ℕ
inode_bytes flat m inode = bytes_at (held_by flat m) (record_at inode) 128

-- what lies behind the last record, up to the end of its page
abbrev pub behind_records : Geometry → Flat → ℕ → List ℕ
behind_records g flat m = bytes_at (held_by flat m) (record_at g.inodes) (block_place (layout_of g) 0 - record_at g.inodes)

-- a block, named as a reference names it
abbrev pub block_bytes : Geometry → Flat → Reference → List ℕ
block_bytes g flat p = bytes_at (held_by flat p.memory) (block_place (layout_of g) p.block) 4096
