-- A tree, as the records of all numbers are read in their order.
use Rattle.std.specs.Prelude.{◌≡◌, ℕ, ◌+◌, ◌-◌, ◌*◌, ◌/◌, ◌%◌, ◌^◌, ◌<◌, ◌==◌, nat_lt, Bool, not, ◌&&◌, ◌⊎◌, if◌then◌else◌, List, take, drop, get_or, Option, Some, None, unwrap_or}
use Rattle.std.specs.FinMap as table
use Rattle.fs_layout.specs.declared.attrs.Attrs.{Attrs}
use Rattle.fs_layout.specs.declared.reference.Reference.{Reference}
use Rattle.fs_layout.specs.Inodes.{SpellsInode}
use Rattle.fs_layout.specs.Places.{number_of}
use Rattle.fs_bitmap.specs.Bits.{is_used}
use Rattle.fs_chain.specs.ReferenceLists.{references_in}
use Rattle.fs_rules.specs.declared.file.File.{File}
use Rattle.fs_rules.specs.declared.geometry.Geometry.{Geometry}
use Rattle.fs_rules.specs.declared.kept.Kept.{Kept}
use Rattle.fs_rules.specs.declared.plain_tree.PlainTree.{PlainTree}
use Rattle.fs_rules.specs.Numbers.{IsNumber}
use Rattle.mini_tx.specs.FlatMemory.{Flat}
use Rattle.fs_image.specs.Owners.{Part, Owners}
use Rattle.fs_image.specs.Parts.{inode_of}
use Rattle.fs_image.specs.Places.{block_map, inode_map, inode_bytes, block_bytes}
use Rattle.fs_image.specs.Stands.{IsImage, Shows, Stands}
use Rattle.fs_reader.specs.Files.{IsFileAt, IsFileRead}
use Rattle.fs_reader.specs.Trees.{TakesFiles}
use Rattle.fs_reader.specs.Walk.{places}

-- ---- where the parts of all files lie

-- the first chaining block that the bytes of a record name
abbrev pub first_in : List ℕ → Option Reference
first_in bytes = get_or (references_in (take 8 (drop 64 bytes))) 0 None

-- whether it is a number of this cluster
abbrev pub is_number : Geometry → ℕ → Bool
is_number g n = nat_lt 0 n && (nat_lt ((n - 1) / 16384) g.memories && nat_lt ((n - 1) % 16384) g.inodes)

-- where each part of the file with a number lies, as its record and its chaining blocks say
abbrev pub place_of : Geometry → Flat → ℕ → Part → Option Reference
place_of g flat n x = if is_number g n then places (block_bytes g flat) (first_in (inode_bytes flat ((n - 1) / 16384) ((n - 1) % 16384))) x else None

-- ---- one number

-- what a number keeps that was never used
abbrev pub nothing_kept : Kept
nothing_kept = record { generation = 0; change = 0 }

-- whether no file can get the number of this record: it has one, or what it keeps cannot rise
abbrev pub is_taken : Attrs → Bool
is_taken a = not ((a.kind == 0) && (nat_lt a.generation (2 ^ 32 - 1) && nat_lt a.change (2 ^ 64 - 1)))

-- the record of a number, with its bit in the map
pub record IsRecordAt (flat : Flat) (m inode : ℕ) (a : Attrs) : Type 0 where
  pub spelled : SpellsInode a (inode_bytes flat m inode)
  pub bit : is_used (inode_map flat m) inode ≡ is_taken a

-- what is there of one number was read
pub record IsNumberRead (g : Geometry) (flat : Flat) (m inode : ℕ) (file : Option File) (kept : Option Kept) : Type 0 where
  pub attrs : Attrs
  pub recorded : IsRecordAt flat m inode attrs
  pub record_is : inode_of file (unwrap_or kept nothing_kept) attrs.first ≡ attrs
  pub file_is : (f : File) → file ≡ Some f → IsFileAt (block_bytes g flat) (number_of m inode) attrs f
  pub live : (f : File) → file ≡ Some f → kept ≡ None
  pub more : (k : Kept) → kept ≡ Some k → k.generation ≡ 0 → k.change ≡ 0 → ⊥

-- ---- the numbers below another

-- they were read: their marks are taken, and the tree has what is there of them and nothing else
pub record IsReadBelow (g : Geometry) (flat : Flat) (n : ℕ) (start left : List ℕ) (t : PlainTree) : Type 0 where
  pub geometry : t.geometry ≡ g
  pub takes : TakesFiles g (place_of g flat) n start left
  pub files : (k : ℕ) (f : File) → table.get t.files k ≡ Some f → IsNumber g k × (k < n)
  pub freed : (k : ℕ) (e : Kept) → table.get t.freed k ≡ Some e → IsNumber g k × (k < n)
  pub read : (m inode : ℕ) → m < g.memories → inode < g.inodes → number_of m inode < n
      → IsNumberRead g flat m inode (table.get t.files (number_of m inode)) (table.get t.freed (number_of m inode))

-- where the numbers below one were read, those up to it are
abbrev pub ReadsNumber : Geometry → Flat → ℕ → List ℕ → PlainTree → List ℕ → PlainTree → Type 0
ReadsNumber g flat n left t new u = (start : List ℕ) → IsReadBelow g flat n start left t → IsReadBelow g flat (n + 1) start new u

-- the images stand for no tree of this cluster
abbrev pub IsNoTree : Geometry → Flat → Type 0
IsNoTree g flat = (u : PlainTree) → u.geometry ≡ g → Stands flat u → ⊥

-- marks are the maps of the blocks, one behind the other
abbrev pub AreMaps : Geometry → Flat → List ℕ → Type 0
AreMaps g flat start = (m bit : ℕ) → m < g.memories → bit < 16384 → is_used start (16384 * m + bit) ≡ is_used (block_map flat m) bit

-- where the numbers below one were read from the maps, there is no tree
abbrev pub IsNoneBelow : Geometry → Flat → ℕ → List ℕ → PlainTree → Type 0
IsNoneBelow g flat n left t = (start : List ℕ) → AreMaps g flat start → IsReadBelow g flat n start left t → IsNoTree g flat

-- ---- a live number, and a free one

-- a file was read and is in the tree
pub record IsLiveRead (g : Geometry) (flat : Flat) (n : ℕ) (a : Attrs) (left : List ℕ) (t : PlainTree) (new : List ℕ) (u : PlainTree) : Type 0 where
  pub file : File
  pub read : IsFileRead g flat n a left new file
  pub tree_is : u ≡ record t { files = table.insert t.files n file }

-- the tree has what a free record keeps
abbrev pub IsFreeRead : ℕ → Attrs → PlainTree → PlainTree → Type 0
IsFreeRead n a t u =
    ((u ≡ t) × (a.generation ≡ 0) × (a.change ≡ 0))
    ⊎ ((u ≡ record t { freed = table.insert t.freed n (record { generation = a.generation; change = a.change }) }) × (a.generation ≡ 0 → a.change ≡ 0 → ⊥))

-- ---- the tree

-- the one tree that the images show was read
pub record IsTreeRead (g : Geometry) (flat : Flat) (t : PlainTree) : Type 0 where
  pub geometry : t.geometry ≡ g
  pub owners : Owners
  pub shows : Shows flat t owners
  pub only : (u : PlainTree) → u.geometry ≡ g → Stands flat u → u ≡ t

-- what the memory nodes hold beside records and blocks is in order
abbrev pub AreImages : Geometry → Flat → Type 0
AreImages g flat = (m : ℕ) → m < g.memories → IsImage g flat m
