-- What a minitransaction is made of (Aguilera et al., "Sinfonia", SOSP 2007, section 3.1), and when items make none.
use Rattle.std.specs.Prelude.{◌+◌, ◌==◌, ◌||◌, ◌&&◌, ℕ, Bool, true, false, nat_lt, nat_le, if◌then◌else◌, List, [], ◌∷◌, length, map, take, ◌↔◌, Option, Some, None}
use Rattle.std.specs.List.{Contains}
use Rattle.std.specs.List.Sorted.{IsStrictlyIncreasing}
use Rattle.mini_tx.specs.declared.item.Item.{Item}
use Rattle.mini_tx.specs.declared.item.Item.TheVariants as item
use Rattle.mini_tx.specs.declared.mini_fault.MiniFault.{MiniFault}
use Rattle.mini_tx.specs.declared.mini_fault.MiniFault.TheVariants as fault

-- ---- items

abbrev pub memory_of : Item → ℕ
memory_of (item.Compare memory at bytes) = memory
memory_of (item.Read memory at len) = memory
memory_of (item.Write memory at bytes) = memory

abbrev pub place_of : Item → ℕ
place_of (item.Compare memory at bytes) = at
place_of (item.Read memory at len) = at
place_of (item.Write memory at bytes) = at

abbrev pub bytes_of : Item → ℕ
bytes_of (item.Compare memory at bytes) = length bytes
bytes_of (item.Read memory at len) = len
bytes_of (item.Write memory at bytes) = length bytes

abbrev pub is_write : Item → Bool
is_write (item.Compare memory at bytes) = false
is_write (item.Read memory at len) = false
is_write (item.Write memory at bytes) = true

-- ---- what is refused of an item

-- it is empty, of a memory node that is not there, or ends past the size
abbrev pub is_outside : ℕ → ℕ → Item → Bool
is_outside memories size i = (bytes_of i == 0) || (nat_le memories (memory_of i) || nat_lt size (place_of i + bytes_of i))

-- two write items of one memory node have a byte in common
abbrev pub overlaps : Item → Item → Bool
overlaps a b =
    (is_write a && is_write b)
    && ((memory_of a == memory_of b) && (nat_lt (place_of a) (place_of b + bytes_of b) && nat_lt (place_of b) (place_of a + bytes_of a)))

abbrev pub overlaps_any : Item → List Item → Bool
overlaps_any i [] = false
overlaps_any i (other ∷ others) = overlaps i other || overlaps_any i others

-- ---- what is refused of all of them

-- the bytes of all items, where a read item counts its length
abbrev pub bytes_of_all : List Item → ℕ
bytes_of_all [] = 0
bytes_of_all (i ∷ items) = bytes_of i + bytes_of_all items

-- the first item that is outside, from this place on
abbrev pub first_outside : ℕ → ℕ → ℕ → List Item → Option ℕ
first_outside memories size at [] = None
first_outside memories size at (i ∷ items) = if is_outside memories size i then Some at else first_outside memories size (at + 1) items

-- the first write item that overlaps an earlier one, from this place on
abbrev pub first_overlap : List Item → ℕ → List Item → Option ℕ
first_overlap all at [] = None
first_overlap all at (i ∷ items) = if overlaps_any i (take at all) then Some at else first_overlap all (at + 1) items

abbrev pub overlap_refusal : Option ℕ → Option MiniFault
overlap_refusal None = None
overlap_refusal (Some at) = Some (fault.Overlap at)

abbrev pub place_refusal : Option ℕ → List Item → Option MiniFault
place_refusal None items = overlap_refusal (first_overlap items 0 items)
place_refusal (Some at) items = Some (fault.OutOfRange at)

-- why items make no minitransaction, the first cause first
abbrev pub refusal : List Item → ℕ → ℕ → Option MiniFault
refusal items memories size =
    if length items == 0 then Some fault.Empty
    else if nat_lt 512 (length items) then Some fault.TooManyItems
    else if nat_lt 1048576 (bytes_of_all items) then Some fault.TooLarge
    else place_refusal (first_outside memories size 0 items) items

-- ---- participants

-- the numbers are those of the items' memory nodes: each once, in ascending order
pub record TakePart (items : List Item) (numbers : List ℕ) : Type 0 where
  pub ascending : IsStrictlyIncreasing numbers
  pub members : (memory : ℕ) → Contains numbers memory ↔ Contains (map memory_of items) memory
