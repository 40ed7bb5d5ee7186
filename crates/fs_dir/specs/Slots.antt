-- The blocks of a directory.
use Rattle.std.specs.Prelude.{◌≡◌, ℕ, ◌-◌, ◌^◌, ◌<◌, ◌≤◌, Bool, not, ◌&&◌, ◌==◌, bytes_eq, List, [], ◌∷◌, ◌++◌, length, replicate, All}
use Rattle.std.specs.List.{flat_map, AllByRecursion}
use Rattle.sfs_base.specs.Reading.{IsBytes}
use Rattle.fs_layout.specs.Words.{spelled}
use Rattle.fs_dir.specs.declared.slot.Slot.{Slot}

-- the slot with this number and name
abbrev pub slot_of : ℕ → List ℕ → Slot
slot_of number name = record { number = number; name = name }

-- what a slot may be: its name has at most 255 bytes, and it has none where it is empty
pub record IsSlot (s : Slot) : Type 0 where
  pub short : length s.name ≤ 255
  pub empty : s.number ≡ 0 → s.name ≡ []

-- its bytes: the number of the file and the length of the name as words, the name, filled up to 255 bytes, and nine zeros
unfoldable pub slot_bytes : Slot → List ℕ
slot_bytes s = spelled (s.number ∷ length s.name ∷ []) ++ (s.name ++ replicate (255 - length s.name) 0) ++ replicate 9 0

-- a slot whose parts are words and bytes
pub record FitsSlot (s : Slot) : Type 0 where
  pub is : IsSlot s
  pub number : s.number < 2 ^ 32
  pub name : IsBytes s.name

-- the bytes are this slot
pub record SpellsSlot (s : Slot) (bytes : List ℕ) : Type 0 where
  pub fits : FitsSlot s
  pub bytes_are : bytes ≡ slot_bytes s

-- the slots of a block
pub record AreSlots (slots : List Slot) : Type 0 where
  pub sized : length slots ≡ 15
  pub are : All IsSlot slots

-- the bytes are the block with these slots: one behind the other, and sixteen zeros
pub record SpellsSlots (slots : List Slot) (bytes : List ℕ) : Type 0 where
  pub sized : length slots ≡ 15
  pub fit : AllByRecursion FitsSlot slots
  pub bytes_are : bytes ≡ flat_map slot_bytes slots ++ replicate 16 0

-- whether a slot has a file
abbrev pub in_use : Slot → Bool
in_use s = not (s.number == 0)

-- whether a slot has a file with this name
abbrev pub has_name : List ℕ → Slot → Bool
has_name name s = in_use s && bytes_eq s.name name
