-- When puts touch nothing but the files of edits.
use Rattle.std.specs.Prelude.{◌≡◌, ℕ, ◌<◌, ◌≤◌, false, true, List, Some, is_some}
use Rattle.std.specs.List.{AllByRecursion}
use Rattle.fs_layout.specs.declared.reference.Reference.{Reference}
use Rattle.fs_layout.specs.Places.{number_of}
use Rattle.fs_bitmap.specs.Bits.{is_used}
use Rattle.fs_rules.specs.declared.geometry.Geometry.{Geometry}
use Rattle.fs_rules.specs.declared.plain_tree.PlainTree.{PlainTree}
use Rattle.fs_rules.specs.Edits.{Edit}
use Rattle.fs_rules.specs.Numbers.{IsNumber}
use Rattle.mini_tx.specs.FlatMemory.{Flat}
use Rattle.fs_image.specs.Edits.{are_of, OnlyOf}
use Rattle.fs_image.specs.Owners.{Part, Owners, IsInverse}
use Rattle.fs_image.specs.Places.{block_map, inode_map}
use Rattle.fs_image.specs.Regions.{Region, FirstPage, BlockMap, InodeMap, Record, Block}
use Rattle.fs_image.specs.Stands.{IsBlock, Shows}
use Rattle.image_puts.specs.Puts.{IsPut, Put}

-- a region of these files: a map, the record of one of them, or a block that no other file has
abbrev pub IsRegionOf : List Edit → Owners → ℕ → Region → Type 0
IsRegionOf es o m FirstPage = ⊥
IsRegionOf es o m BlockMap = Unit {0}
IsRegionOf es o m InodeMap = Unit {0}
IsRegionOf es o m (Record inode) = are_of es (number_of m inode) ≡ true
IsRegionOf es o m (Block b) = (n : ℕ) (x : Part) → o.place n x ≡ Some (record { memory = m; block = b }) → are_of es n ≡ true

abbrev pub IsPutOf : List Edit → Owners → Put → Type 0
IsPutOf es o q = IsRegionOf es o q.memory q.region

-- the maps tell the owners that there are now, and nothing else of other files; past the last block and the last inode they
-- have zeros
pub record AreMapsOf (g : Geometry) (es : List Edit) (flat new : Flat) (p : Owners) : Type 0 where
  pub bits : (r : Reference) → IsBlock g r → is_used (block_map new r.memory) r.block ≡ is_some (p.owner r)
  pub no_block : (m k : ℕ) → m < g.memories → g.blocks ≤ k → k < 16384 → is_used (block_map new m) k ≡ false
  pub no_inode : (m k : ℕ) → m < g.memories → g.inodes ≤ k → k < 16384 → is_used (inode_map new m) k ≡ false
  pub inodes : (m inode : ℕ) → m < g.memories → inode < g.inodes → are_of es (number_of m inode) ≡ false
      → is_used (inode_map new m) inode ≡ is_used (inode_map flat m) inode

-- the owners are those of blocks of this cluster, and other files have theirs where they had them
pub record AreOwnersAfter (g : Geometry) (es : List Edit) (o p : Owners) : Type 0 where
  pub inverse : IsInverse p
  pub inside : (n : ℕ) (x : Part) (r : Reference) → p.place n x ≡ Some r → IsNumber g n × IsBlock g r
  pub places : (n : ℕ) → are_of es n ≡ false → (x : Part) → p.place n x ≡ o.place n x

abbrev pub PutsAreOnly : Type 0
PutsAreOnly = (t : PlainTree) (es : List Edit) (puts : List Put) (flat new : Flat) (o p : Owners) → Shows flat t o → IsPut t.geometry puts flat new
    → AllByRecursion (IsPutOf es o) puts → AreMapsOf t.geometry es flat new p → AreOwnersAfter t.geometry es o p → OnlyOf t.geometry es flat new o p
