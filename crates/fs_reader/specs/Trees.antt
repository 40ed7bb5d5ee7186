-- The files of all numbers, read in their order.
use Rattle.std.specs.Prelude.{◌≡◌, ℕ, ◌+◌, ◌*◌, ◌<◌, true, false, List, Option, Some, is_some}
use Rattle.fs_layout.specs.declared.reference.Reference.{Reference}
use Rattle.fs_bitmap.specs.Bits.{is_used}
use Rattle.fs_rules.specs.declared.geometry.Geometry.{Geometry}
use Rattle.fs_rules.specs.Geometry.{IsWithinLimits}
use Rattle.mini_tx.specs.FlatMemory.{Flat}
use Rattle.fs_image.specs.Owners.{Part, Owners, IsInverse}
use Rattle.fs_image.specs.Places.{block_map}
use Rattle.fs_image.specs.Stands.{IsBlock}
use Rattle.fs_reader.specs.Marks.{bit_of, turn, Takes}

-- a part of a file with a number below another, and where it lies
pub record FoundIn (place : ℕ → Part → Option Reference) (numbers bit : ℕ) : Type 0 where
  pub file : ℕ
  pub part : Part
  pub at : Reference
  pub before : file < numbers
  pub is : place file part ≡ Some at
  pub bit_is : bit_of at ≡ bit

-- the blocks of the files with numbers below another were marked, no two of them are the same, and just their marks are
-- taken
pub record TakesFiles (g : Geometry) (place : ℕ → Part → Option Reference) (numbers : ℕ) (old new : List ℕ) : Type 0 where
  pub inside : (n : ℕ) (x : Part) (p : Reference) → n < numbers → place n x ≡ Some p → IsBlock g p
  pub marked : (n : ℕ) (x : Part) (p : Reference) → n < numbers → place n x ≡ Some p → is_used old (bit_of p) ≡ true
  pub taken : (n : ℕ) (x : Part) (p : Reference) → n < numbers → place n x ≡ Some p → is_used new (bit_of p) ≡ false
  pub found : (bit : ℕ) → is_used old bit ≡ true → is_used new bit ≡ false → FoundIn place numbers bit
  pub kept : (bit : ℕ) → is_used new bit ≡ true → is_used old bit ≡ true
  pub once : (n m : ℕ) (x y : Part) (p : Reference) → n < numbers → m < numbers → place n x ≡ Some p → place m y ≡ Some p → (n ≡ m) × (x ≡ y)

-- all files were read, from the marks that the maps of the images are, and no mark is left
pub record AreAllTaken (g : Geometry) (flat : Flat) (place : ℕ → Part → Option Reference) (numbers : ℕ) (old new : List ℕ) : Type 0 where
  pub takes : TakesFiles g place numbers old new
  pub all : (n : ℕ) (x : Part) (p : Reference) → place n x ≡ Some p → n < numbers
  pub maps : (p : Reference) → IsBlock g p → is_used old (bit_of p) ≡ is_used (block_map flat p.memory) p.block
  pub none : (bit : ℕ) → bit < 16384 * g.memories → is_used new bit ≡ false

-- ---- laws

-- a file more: where the files with lower numbers took their marks, and the file with this number takes its own from what
-- is left, the files up to it took theirs
abbrev pub FilesTakeTheirs : Type 0
FilesTakeTheirs = (g : Geometry) (place : ℕ → Part → Option Reference) (n turns : ℕ) (old mid new : List ℕ) → TakesFiles g place n old mid → Takes g (place n) turns mid new
    → ((x : Part) (p : Reference) → place n x ≡ Some p → turn x < turns) → TakesFiles g place (n + 1) old new

-- owners whose parts lie at these places, and of whose blocks just the bits are set
pub record AreOwners (g : Geometry) (flat : Flat) (place : ℕ → Part → Option Reference) : Type 0 where
  pub owners : Owners
  pub places : owners.place ≡ place
  pub inverse : IsInverse owners
  pub bits : (p : Reference) → IsBlock g p → is_used (block_map flat p.memory) p.block ≡ is_some (owners.owner p)

-- where all files took their marks and none is left, the blocks have owners
abbrev pub MarksTellOwners : Type 0
MarksTellOwners = (g : Geometry) (flat : Flat) (place : ℕ → Part → Option Reference) (numbers : ℕ) (old new : List ℕ) → IsWithinLimits g
    → AreAllTaken g flat place numbers old new → AreOwners g flat place
