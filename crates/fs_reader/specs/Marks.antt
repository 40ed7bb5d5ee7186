-- The marks of blocks: a bit for each used block that no part was found in yet.
use Rattle.std.specs.Prelude.{◌≡◌, ℕ, ◌+◌, ◌*◌, ◌/◌, ◌%◌, ◌<◌, true, false, List, Option, Some}
use Rattle.fs_layout.specs.declared.reference.Reference.{Reference}
use Rattle.fs_bitmap.specs.Bits.{is_used}
use Rattle.fs_rules.specs.declared.geometry.Geometry.{Geometry}
use Rattle.fs_image.specs.Owners.{Part, Chain, Block}
use Rattle.fs_image.specs.Stands.{IsBlock}

-- the bit of a block: the maps of all memory nodes stand one behind the other
abbrev pub bit_of : Reference → ℕ
bit_of p = 16384 * p.memory + p.block

-- the turn at which a part is read: each chaining block before the blocks that it refers to
abbrev pub turn : Part → ℕ
turn (Chain k) = 511 * k
turn (Block i) = 511 * (i / 510) + 1 + i % 510

-- a part that is there, and where it lies
pub record Found (place : Part → Option Reference) (turns bit : ℕ) : Type 0 where
  pub part : Part
  pub at : Reference
  pub before : turn part < turns
  pub is : place part ≡ Some at
  pub bit_is : bit_of at ≡ bit

-- the blocks of the parts before a turn were marked, no two of them are the same, and just their marks are taken
pub record Takes (g : Geometry) (place : Part → Option Reference) (turns : ℕ) (old new : List ℕ) : Type 0 where
  pub inside : (x : Part) (p : Reference) → turn x < turns → place x ≡ Some p → IsBlock g p
  pub marked : (x : Part) (p : Reference) → turn x < turns → place x ≡ Some p → is_used old (bit_of p) ≡ true
  pub taken : (x : Part) (p : Reference) → turn x < turns → place x ≡ Some p → is_used new (bit_of p) ≡ false
  pub found : (bit : ℕ) → is_used old bit ≡ true → is_used new bit ≡ false → Found place turns bit
  pub kept : (bit : ℕ) → is_used new bit ≡ true → is_used old bit ≡ true
  pub once : (x y : Part) (p : Reference) → turn x < turns → turn y < turns → place x ≡ Some p → place y ≡ Some p → x ≡ y

-- the blocks of all parts can be taken: they are marked, and no two of them are the same
pub record CanTake (g : Geometry) (place : Part → Option Reference) (old : List ℕ) : Type 0 where
  pub inside : (x : Part) (p : Reference) → place x ≡ Some p → IsBlock g p
  pub marked : (x : Part) (p : Reference) → place x ≡ Some p → is_used old (bit_of p) ≡ true
  pub once : (x y : Part) (p : Reference) → place x ≡ Some p → place y ≡ Some p → x ≡ y
