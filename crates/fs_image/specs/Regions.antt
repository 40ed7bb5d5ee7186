-- The regions of an image: no two share a byte, so a write changes what one of them holds and no other.
use Rattle.std.specs.Prelude.{◌≡◌, ◌≢◌, ◌⊎◌, ℕ, ◌+◌, ◌<◌, ◌≤◌, List, [], ◌∷◌, length}
use Rattle.fs_layout.specs.declared.layout.Layout.{Layout}
use Rattle.fs_layout.specs.Places.{image_size, record_at, block_place, number_of}
use Rattle.mini_tx.specs.declared.item.Item.TheVariants.{Write}
use Rattle.mini_tx.specs.FlatMemory.{Flat, held_by, bytes_at, after}

-- the first page, the map of the blocks, that of the inodes, the record of an inode, and a block
pub data Region : Type 0 where
  FirstPage : Region
  BlockMap : Region
  InodeMap : Region
  Record : ℕ → Region
  Block : ℕ → Region

-- where a region begins, and how many bytes it has
abbrev pub start : Layout → Region → ℕ
start l FirstPage = 0
start l BlockMap = 4096
start l InodeMap = 6144
start l (Record inode) = record_at inode
start l (Block block) = block_place l block

abbrev pub size : Region → ℕ
size FirstPage = 4096
size BlockMap = 2048
size InodeMap = 2048
size (Record inode) = 128
size (Block block) = 4096

-- a region of an image
abbrev pub IsRegion : Layout → Region → Type 0
IsRegion l FirstPage = Unit {0}
IsRegion l BlockMap = Unit {0}
IsRegion l InodeMap = Unit {0}
IsRegion l (Record inode) = inode < l.inodes
IsRegion l (Block block) = block < l.blocks

-- two ranges of bytes share none
abbrev pub AreApart : ℕ → ℕ → ℕ → ℕ → Type 0
AreApart at len other size = (at + len ≤ other) ⊎ (other + size ≤ at)

abbrev pub RegionsAreApart : Type 0
RegionsAreApart = (l : Layout) (r s : Region) → IsRegion l r → IsRegion l s → r ≢ s → AreApart (start l r) (size r) (start l s) (size s)

abbrev pub RegionsAreInside : Type 0
RegionsAreInside = (l : Layout) (r : Region) → IsRegion l r → start l r + size r ≤ image_size l

-- a number is of one memory node and one inode
abbrev pub NumbersAreApart : Type 0
NumbersAreApart = (m inode other index : ℕ) → inode < 16384 → index < 16384 → number_of m inode ≡ number_of other index → (m ≡ other) × (inode ≡ index)

-- what a write leaves: its bytes at its place, and all that shares no byte with it as it was
pub record Writes (flat new : Flat) (m at : ℕ) (bytes : List ℕ) : Type 0 where
  pub here : bytes_at (held_by new m) at (length bytes) ≡ bytes
  pub apart : (from n : ℕ) → AreApart at (length bytes) from n → bytes_at (held_by new m) from n ≡ bytes_at (held_by flat m) from n
  pub others : (k : ℕ) → k ≢ m → held_by new k ≡ held_by flat k
  pub sized : length (held_by new m) ≡ length (held_by flat m)
  pub memories : length new ≡ length flat

-- a write item within a flat memory
abbrev pub WritesStayApart : Type 0
WritesStayApart = (flat : Flat) (m at : ℕ) (bytes : List ℕ) → m < length flat → at + length bytes ≤ length (held_by flat m) → Writes flat (after (Write m at bytes ∷ []) flat) m at bytes
