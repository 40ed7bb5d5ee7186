-- A flat memory stands for a tree (docs/FORMATS.md, "Images").
use Rattle.std.specs.Prelude.{◌≡◌, ℕ, ◌-◌, ◌<◌, ◌≤◌, false, not, length, replicate, Option, Some, is_some}
use Rattle.std.specs.FinMap as table
use Rattle.fs_layout.specs.declared.reference.Reference.{Reference}
use Rattle.fs_layout.specs.Places.{image_size, record_at, block_place, number_of}
use Rattle.fs_layout.specs.Inodes.{SpellsInode}
use Rattle.fs_layout.specs.Superblocks.{SpellsSuperblock}
use Rattle.fs_bitmap.specs.Bits.{is_used}
use Rattle.fs_rules.specs.declared.file.File.{File}
use Rattle.fs_rules.specs.declared.geometry.Geometry.{Geometry}
use Rattle.fs_rules.specs.declared.plain_tree.PlainTree.{PlainTree}
use Rattle.fs_rules.specs.Good.{IsGood}
use Rattle.fs_rules.specs.Numbers.{IsNumber, kept_at, is_free}
use Rattle.mini_tx.specs.FlatMemory.{Flat, held_by}
use Rattle.fs_image.specs.Owners.{Part, Chain, Owners, IsInverse}
use Rattle.fs_image.specs.Parts.{has_part_of, inode_of, Holds}
use Rattle.fs_image.specs.Places.{layout_of, first_page, block_map, inode_map, inode_bytes, behind_records, block_bytes}

-- a block of this cluster
pub record IsBlock (g : Geometry) (p : Reference) : Type 0 where
  pub memory : p.memory < g.memories
  pub block : p.block < g.blocks

-- what a memory node holds beside records and blocks: an image of its size, its superblock, and zeros where nothing lies
pub record IsImage (g : Geometry) (flat : Flat) (m : ℕ) : Type 0 where
  pub sized : length (held_by flat m) ≡ image_size (layout_of g)
  pub superblock : SpellsSuperblock (record { memory = m; memories = g.memories; blocks = g.blocks; inodes = g.inodes }) (first_page flat m)
  pub no_block : (k : ℕ) → g.blocks ≤ k → k < 16384 → is_used (block_map flat m) k ≡ false
  pub no_inode : (k : ℕ) → g.inodes ≤ k → k < 16384 → is_used (inode_map flat m) k ≡ false
  pub no_record : behind_records g flat m ≡ replicate (block_place (layout_of g) 0 - record_at g.inodes) 0

-- what is there of one number: its record, a block for each part of its file and for no other, what these blocks hold, and
-- its bit
pub record ShowsFile (flat : Flat) (t : PlainTree) (place : Part → Option Reference) (m inode : ℕ) (file : Option File) : Type 0 where
  pub record_is : SpellsInode (inode_of file (kept_at t (number_of m inode)) (place (Chain 0))) (inode_bytes flat m inode)
  pub there : (x : Part) → is_some (place x) ≡ has_part_of file x
  pub holds : (f : File) (x : Part) (p : Reference) → file ≡ Some f → place x ≡ Some p → Holds place (number_of m inode) f.content x (block_bytes t.geometry flat p)
  pub bit : is_used (inode_map flat m) inode ≡ not (is_free t (number_of m inode))

-- a flat memory shows a tree, by these owners of its blocks
pub record Shows (flat : Flat) (t : PlainTree) (o : Owners) : Type 0 where
  pub memories : length flat ≡ t.geometry.memories
  pub images : (m : ℕ) → m < t.geometry.memories → IsImage t.geometry flat m
  pub inverse : IsInverse o
  pub inside : (n : ℕ) (x : Part) (p : Reference) → o.place n x ≡ Some p → IsNumber t.geometry n × IsBlock t.geometry p
  pub files : (m inode : ℕ) → m < t.geometry.memories → inode < t.geometry.inodes
      → ShowsFile flat t (o.place (number_of m inode)) m inode (table.get t.files (number_of m inode))
  pub bits : (p : Reference) → IsBlock t.geometry p → is_used (block_map flat p.memory) p.block ≡ is_some (o.owner p)

-- a flat memory stands for a tree: the tree is a file system, and the memory shows it
pub record Stands (flat : Flat) (t : PlainTree) : Type 0 where
  pub good : IsGood t
  pub owners : Owners
  pub shows : Shows flat t owners
