-- A file that is changed: which of its places have to be written.
use Rattle.std.specs.Prelude.{◌≡◌, ◌⊎◌, ℕ, ◌+◌, ◌*◌, ◌<◌, not, Option, Some, is_some}
use Rattle.std.specs.FinMap as table
use Rattle.fs_layout.specs.declared.reference.Reference.{Reference}
use Rattle.fs_layout.specs.Inodes.{SpellsInode}
use Rattle.fs_layout.specs.Places.{number_of}
use Rattle.fs_bitmap.specs.Bits.{is_used}
use Rattle.fs_rules.specs.declared.content.Content.{Content}
use Rattle.fs_rules.specs.declared.content.Content.TheVariants.{Regular, Link, Directory}
use Rattle.fs_rules.specs.declared.file.File.{File}
use Rattle.fs_rules.specs.declared.plain_tree.PlainTree.{PlainTree}
use Rattle.fs_rules.specs.Numbers.{is_free}
use Rattle.mini_tx.specs.FlatMemory.{Flat}
use Rattle.fs_image.specs.Owners.{Part, Chain, Block}
use Rattle.fs_image.specs.Parts.{has_part, live_inode, slots_at, Holds}
use Rattle.fs_image.specs.Places.{inode_map, inode_bytes, block_bytes}
use Rattle.fs_image.specs.Stands.{ShowsFile}

-- two contents have the same at an index
abbrev pub HasSameBlock : Content → Content → ℕ → Type 0
HasSameBlock (Regular b) (Regular c) index = table.get b index ≡ table.get c index
HasSameBlock (Regular b) (Directory slots parent) index = ⊥
HasSameBlock (Regular b) (Link c) index = ⊥
HasSameBlock (Directory slots parent) (Regular c) index = ⊥
HasSameBlock (Directory xs p) (Directory ys q) index = slots_at xs index ≡ slots_at ys index
HasSameBlock (Directory slots parent) (Link c) index = ⊥
HasSameBlock (Link b) (Regular c) index = ⊥
HasSameBlock (Link b) (Directory slots parent) index = ⊥
HasSameBlock (Link b) (Link c) index = table.get b index ≡ table.get c index

-- a part need not be written: a chaining block whose next one and blocks are where they were, a block with the same content
abbrev pub HasSame : (Part → Option Reference) → (Part → Option Reference) → Content → Content → Part → Type 0
HasSame w q c d (Chain k) = (w (Chain (k + 1)) ≡ q (Chain (k + 1))) × ((j : ℕ) → j < 510 → w (Block (510 * k + j)) ≡ q (Block (510 * k + j)))
HasSame w q c d (Block index) = HasSameBlock c d index

-- a part stays where it was, in a block that was not touched
pub record IsKept (t : PlainTree) (flat new : Flat) (w q : Part → Option Reference) (c d : Content) (x : Part) (r : Reference) : Type 0 where
  pub place : w x ≡ Some r
  pub bytes : block_bytes t.geometry new r ≡ block_bytes t.geometry flat r
  pub same : HasSame w q c d x

-- a file becomes another: its record is written, and each of its parts is written, or kept
pub record IsWritten (t u : PlainTree) (flat new : Flat) (w q : Part → Option Reference) (m inode : ℕ) (old file : File) : Type 0 where
  pub geometry : u.geometry ≡ t.geometry
  pub record_is : SpellsInode (live_inode file (q (Chain 0))) (inode_bytes new m inode)
  pub there : (x : Part) → is_some (q x) ≡ has_part file.content x
  pub each : (x : Part) (r : Reference) → q x ≡ Some r
      → Holds q (number_of m inode) file.content x (block_bytes t.geometry new r) ⊎ IsKept t flat new w q old.content file.content x r
  pub bit : is_used (inode_map new m) inode ≡ not (is_free u (number_of m inode))

-- then it is shown
abbrev pub WrittenIsShown : Type 0
WrittenIsShown = (t u : PlainTree) (flat new : Flat) (w q : Part → Option Reference) (m inode : ℕ) (old file : File) → ShowsFile flat t w m inode (Some old)
    → IsWritten t u flat new w q m inode old file → ShowsFile new u q m inode (Some file)
