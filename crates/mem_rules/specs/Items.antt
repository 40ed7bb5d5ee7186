-- What the items of one memory node find and do on its image.
use Rattle.std.specs.Prelude.{ℕ, Bool, true, false, not, nat_eq, ◌&&◌, ◌||◌, List, [], ◌∷◌, length, Option, Some, None, if◌then◌else◌}
use Rattle.mini_tx.specs.declared.item.Item.{Item}
use Rattle.mini_tx.specs.declared.item.Item.TheVariants.{Compare, Read, Write}
use Rattle.mini_tx.specs.declared.placed_item.PlacedItem.{PlacedItem}
use Rattle.mini_tx.specs.declared.range.Range.{Range}
use Rattle.mini_tx.specs.declared.write_at.WriteAt.{WriteAt}
use Rattle.mini_tx.specs.FlatMemory.{bytes_at, with_bytes}
use Rattle.mini_tx.specs.Minitransactions.{place_of, bytes_of, is_write}
use Rattle.mem_rules.specs.declared.difference.Difference.{Difference}

-- the same bytes
abbrev pub are_same : List ℕ → List ℕ → Bool
are_same [] [] = true
are_same (b ∷ bytes) (c ∷ others) = nat_eq b c && are_same bytes others
are_same _ _ = false

-- whether other bytes stand where a compare item compares
abbrev pub differs : List ℕ → Item → Bool
differs image (Compare memory at bytes) = not (are_same (bytes_at image at (length bytes)) bytes)
differs image (Read memory at n) = false
differs image (Write memory at bytes) = false

-- the first compare item that differs
abbrev pub first_difference : List ℕ → List PlacedItem → Option Difference
first_difference image [] = None
first_difference image (p ∷ items) =
    if differs image p.item then Some (record { place = p.place; kept = bytes_at image (place_of p.item) (bytes_of p.item) }) else first_difference image items

-- the bytes of a read item, before others
abbrev pub read_before : List ℕ → Item → List (List ℕ) → List (List ℕ)
read_before image (Compare memory at bytes) others = others
read_before image (Read memory at n) others = bytes_at image at n ∷ others
read_before image (Write memory at bytes) others = others

-- the bytes of the read items, in order
abbrev pub reads_of : List ℕ → List PlacedItem → List (List ℕ)
reads_of image [] = []
reads_of image (p ∷ items) = read_before image p.item (reads_of image items)

-- a write item, before others
abbrev pub write_before : Item → List WriteAt → List WriteAt
write_before (Compare memory at bytes) others = others
write_before (Read memory at n) others = others
write_before (Write memory at bytes) others = record { at = at; bytes = bytes } ∷ others

-- the write items, in order
abbrev pub writes_of : List PlacedItem → List WriteAt
writes_of [] = []
writes_of (p ∷ items) = write_before p.item (writes_of items)

-- whether there is a write item
abbrev pub any_write : List PlacedItem → Bool
any_write [] = false
any_write (p ∷ items) = is_write p.item || any_write items

-- the image with these writes in place, in order
abbrev pub written : List ℕ → List WriteAt → List ℕ
written image [] = image
written image (w ∷ writes) = written (with_bytes image w.at w.bytes) writes

-- the bytes that an item touches
abbrev pub range_of : PlacedItem → Range
range_of p = record { at = place_of p.item; length = bytes_of p.item }
