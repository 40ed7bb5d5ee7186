-- What has to be written so that a flat memory shows a tree after edits.
use Rattle.std.specs.Prelude.{◌≡◌, ℕ, ◌<◌, ◌==◌, Bool, false, true, List, length, Some, is_some}
use Rattle.std.specs.List.{list_any}
use Rattle.std.specs.FinMap as table
use Rattle.nfs_proto.specs.declared.stamp.Stamp.{Stamp}
use Rattle.fs_layout.specs.declared.reference.Reference.{Reference}
use Rattle.fs_layout.specs.Places.{number_of}
use Rattle.fs_bitmap.specs.Bits.{is_used}
use Rattle.fs_rules.specs.declared.geometry.Geometry.{Geometry}
use Rattle.fs_rules.specs.declared.plain_tree.PlainTree.{PlainTree}
use Rattle.fs_rules.specs.Edits.{Edit, Changed, Made, Freed, edited}
use Rattle.fs_rules.specs.Numbers.{IsNumber}
use Rattle.mini_tx.specs.FlatMemory.{Flat}
use Rattle.fs_image.specs.Owners.{Part, Owners, IsInverse}
use Rattle.fs_image.specs.Places.{block_map, inode_map, inode_bytes, block_bytes}
use Rattle.fs_image.specs.Stands.{IsBlock, IsImage, ShowsFile, Shows}

-- the number of the file of an edit
abbrev pub file_of : Edit → ℕ
file_of (Changed n f) = n
file_of (Made n f) = n
file_of (Freed n f) = n

-- whether edits are of a file
abbrev pub are_of : List Edit → ℕ → Bool
are_of es n = list_any (λ e. file_of e == n) es

-- a flat memory and its owners become others, and nothing but the files of these edits is touched: every other file has
-- its record, its bit, and its parts where they were and as they were; a block is used where it has an owner now
pub record OnlyOf (g : Geometry) (es : List Edit) (flat new : Flat) (o p : Owners) : Type 0 where
  pub memories : length new ≡ length flat
  pub images : (m : ℕ) → m < g.memories → IsImage g new m
  pub inverse : IsInverse p
  pub inside : (n : ℕ) (x : Part) (r : Reference) → p.place n x ≡ Some r → IsNumber g n × IsBlock g r
  pub places : (n : ℕ) → are_of es n ≡ false → (x : Part) → p.place n x ≡ o.place n x
  pub records : (m inode : ℕ) → m < g.memories → inode < g.inodes → are_of es (number_of m inode) ≡ false → inode_bytes new m inode ≡ inode_bytes flat m inode
  pub inodes : (m inode : ℕ) → m < g.memories → inode < g.inodes → are_of es (number_of m inode) ≡ false
      → is_used (inode_map new m) inode ≡ is_used (inode_map flat m) inode
  pub blocks : (n : ℕ) (x : Part) (r : Reference) → are_of es n ≡ false → o.place n x ≡ Some r → block_bytes g new r ≡ block_bytes g flat r
  pub bits : (r : Reference) → IsBlock g r → is_used (block_map new r.memory) r.block ≡ is_some (p.owner r)

-- a flat memory that shows a tree shows the tree after edits, where only their files were touched and each of these is
-- shown
abbrev pub EditsAreShown : Type 0
EditsAreShown = (now : Stamp) (t : PlainTree) (es : List Edit) (flat new : Flat) (o p : Owners) → Shows flat t o → OnlyOf t.geometry es flat new o p
    → ((m inode : ℕ) → m < t.geometry.memories → inode < t.geometry.inodes → are_of es (number_of m inode) ≡ true
    → ShowsFile new (edited now t es) (p.place (number_of m inode)) m inode (table.get (edited now t es).files (number_of m inode)))
    → Shows new (edited now t es) p
