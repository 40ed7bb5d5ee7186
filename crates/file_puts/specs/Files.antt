-- What has to be put so that one file becomes another, is made, or is freed.
use Rattle.std.specs.Prelude.{◌≡◌, ℕ, not, List, slice_get, Option, Some, None, is_some}
use Rattle.std.specs.List.{AllByRecursion}
use Rattle.std.specs.FinMap as table
use Rattle.fs_layout.specs.declared.attrs.Attrs.{Attrs}
use Rattle.fs_layout.specs.declared.reference.Reference.{Reference}
use Rattle.fs_layout.specs.Inodes.{SpellsInode, free_inode}
use Rattle.fs_layout.specs.Places.{number_of}
use Rattle.fs_bitmap.specs.Bits.{is_used}
use Rattle.fs_rules.specs.declared.content.Content.{Content}
use Rattle.fs_rules.specs.declared.file.File.{File}
use Rattle.fs_rules.specs.declared.plain_tree.PlainTree.{PlainTree}
use Rattle.fs_rules.specs.Numbers.{is_free, kept_at}
use Rattle.mini_tx.specs.FlatMemory.{Flat, with_bytes}
use Rattle.fs_image.specs.Owners.{Part, Chain}
use Rattle.fs_image.specs.Parts.{has_part, live_inode, Holds}
use Rattle.fs_image.specs.Places.{inode_map, block_bytes}
use Rattle.fs_image.specs.Regions.{Record, Block}
use Rattle.fs_image.specs.Stands.{IsBlock}
use Rattle.fs_image.specs.Written.{HasSame}
use Rattle.image_puts.specs.Puts.{IsElsewhere, Put}

-- one of the puts
pub record IsAmong (puts : List Put) (p : Put) : Type 0 where
  pub at : ℕ
  pub there : slice_get puts at ≡ Some p

-- ---- the record

abbrev pub record_put : ℕ → ℕ → List ℕ → Put
record_put m inode bytes = record { memory = m; region = Record inode; offset = 0; bytes = bytes }

-- it is put whole
pub record IsRecordPut (puts : List Put) (m inode : ℕ) (a : Attrs) : Type 0 where
  pub bytes : List ℕ
  pub spelled : SpellsInode a bytes
  pub among : IsAmong puts (record_put m inode bytes)

-- ---- the parts

abbrev pub block_put : Reference → ℕ → List ℕ → Put
block_put r offset bytes = record { memory = r.memory; region = Block r.block; offset = offset; bytes = bytes }

-- bytes are put into the block of a part, and then it holds what is its
pub record IsPartPut (t : PlainTree) (puts : List Put) (flat : Flat) (q : Part → Option Reference) (n : ℕ) (content : Content) (x : Part) (r : Reference) : Type 0 where
  pub offset : ℕ
  pub bytes : List ℕ
  pub among : IsAmong puts (block_put r offset bytes)
  pub holds : Holds q n content x (with_bytes (block_bytes t.geometry flat r) offset bytes)

-- nothing is put into its block, and it stays there with the same content
pub record IsPartLeft (t : PlainTree) (puts : List Put) (w q : Part → Option Reference) (c d : Content) (x : Part) (r : Reference) : Type 0 where
  pub block : IsBlock t.geometry r
  pub elsewhere : AllByRecursion (IsElsewhere r.memory (Block r.block)) puts
  pub place : w x ≡ Some r
  pub same : HasSame w q c d x

pub data IsPartOf (t : PlainTree) (puts : List Put) (flat : Flat) (w q : Part → Option Reference) (n : ℕ) (c d : Content) (x : Part) (r : Reference) : Type 0 where
  put : IsPartPut t puts flat q n d x r → IsPartOf t puts flat w q n c d x r
  left : IsPartLeft t puts w q c d x r → IsPartOf t puts flat w q n c d x r

-- ---- files

-- a file becomes another: its places were these, and are these
pub record IsChanged (t u : PlainTree) (puts : List Put) (flat : Flat) (w q : Part → Option Reference) (m inode : ℕ) (old file : File) : Type 0 where
  pub was : table.get t.files (number_of m inode) ≡ Some old
  pub is : table.get u.files (number_of m inode) ≡ Some file
  pub record_is : IsRecordPut puts m inode (live_inode file (q (Chain 0)))
  pub there : (x : Part) → is_some (q x) ≡ has_part file.content x
  pub each : (x : Part) (r : Reference) → q x ≡ Some r → IsPartOf t puts flat w q (number_of m inode) old.content file.content x r

-- a file is made
pub record IsMade (t u : PlainTree) (puts : List Put) (flat : Flat) (q : Part → Option Reference) (m inode : ℕ) (file : File) : Type 0 where
  pub is : table.get u.files (number_of m inode) ≡ Some file
  pub record_is : IsRecordPut puts m inode (live_inode file (q (Chain 0)))
  pub there : (x : Part) → is_some (q x) ≡ has_part file.content x
  pub each : (x : Part) (r : Reference) → q x ≡ Some r → IsPartPut t puts flat q (number_of m inode) file.content x r

-- a number is free, and keeps what it keeps
pub record IsFreed (u : PlainTree) (puts : List Put) (q : Part → Option Reference) (m inode : ℕ) : Type 0 where
  pub is : table.get u.files (number_of m inode) ≡ None
  pub record_is : IsRecordPut puts m inode (free_inode (kept_at u (number_of m inode)).generation (kept_at u (number_of m inode)).change)
  pub none : (x : Part) → q x ≡ None

pub data IsFilePut (t u : PlainTree) (puts : List Put) (flat : Flat) (w q : Part → Option Reference) (m inode : ℕ) : Type 0 where
  changed : (old file : File) → IsChanged t u puts flat w q m inode old file → IsFilePut t u puts flat w q m inode
  made : (file : File) → IsMade t u puts flat q m inode file → IsFilePut t u puts flat w q m inode
  freed : IsFreed u puts q m inode → IsFilePut t u puts flat w q m inode

-- the bit of a number tells whether it is free
abbrev pub IsBitOf : PlainTree → Flat → ℕ → ℕ → Type 0
IsBitOf u new m inode = is_used (inode_map new m) inode ≡ not (is_free u (number_of m inode))
