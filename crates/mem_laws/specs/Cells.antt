-- Identifiers and cuts as numbers, and items as cells.
use Rattle.std.specs.Prelude.{ℕ, zero, suc, ◌*◌, ◌^◌, ◌+◌, ◌-◌, nat_lt, nat_le, ◌&&◌, List, [], ◌∷◌, ◌++◌, length, get_or, Option, Some, None, if◌then◌else◌}
use Rattle.mini_tx.specs.declared.cut_id.CutId.{CutId}
use Rattle.mini_tx.specs.declared.item.Item.{Item}
use Rattle.mini_tx.specs.declared.item.Item.TheVariants.{Compare, Read, Write}
use Rattle.mini_tx.specs.declared.placed_item.PlacedItem.{PlacedItem}
use Rattle.mini_tx.specs.declared.range.Range.{Range}
use Rattle.mini_tx.specs.declared.tx_id.TxId.{TxId}
use Rattle.mini_tx.specs.declared.write_at.WriteAt.{WriteAt}
use Rattle.tx_rules.specs.Mini.{Want}
use Rattle.tx_actors.specs.Numbers.{identifier}

abbrev pub number : TxId → ℕ
number id = identifier id.coord id.boot id.seq

abbrev pub cut_number : CutId → ℕ
cut_number cut = cut.boot * 2 ^ 64 + cut.seq

-- so many cells from a place on
abbrev pub cells_from : ℕ → ℕ → List ℕ
cells_from at zero = []
cells_from at (suc n) = at ∷ cells_from (at + 1) n

-- the cells of ranges
abbrev pub cells_in : List Range → List ℕ
cells_in [] = []
cells_in (r ∷ ranges) = cells_from r.at r.length ++ cells_in ranges

-- the cells from a place on that the item at a place compares, each with the byte that it is to have
abbrev pub wants_from : ℕ → ℕ → List ℕ → List Want
wants_from item at [] = []
wants_from item at (b ∷ bytes) = record { cell = at; byte = b; item = item } ∷ wants_from item (at + 1) bytes

abbrev pub wants_before : ℕ → Item → List Want → List Want
wants_before place (Compare memory at bytes) others = wants_from place at bytes ++ others
wants_before place (Read memory at n) others = others
wants_before place (Write memory at bytes) others = others

-- what the compare items want, in their order
abbrev pub wants_of : List PlacedItem → List Want
wants_of [] = []
wants_of (p ∷ items) = wants_before p.place p.item (wants_of items)

abbrev pub read_before : Item → List (List ℕ) → List (List ℕ)
read_before (Compare memory at bytes) others = others
read_before (Read memory at n) others = cells_from at n ∷ others
read_before (Write memory at bytes) others = others

-- the cells that each read item reads, in their order
abbrev pub read_cells : List PlacedItem → List (List ℕ)
read_cells [] = []
read_cells (p ∷ items) = read_before p.item (read_cells items)

-- the byte that a write puts into a cell
abbrev pub byte_in : WriteAt → ℕ → Option ℕ
byte_in w a = if nat_le w.at a && nat_lt a (w.at + length w.bytes) then Some (get_or w.bytes (a - w.at) 0) else None

abbrev pub later : Option ℕ → Option ℕ → Option ℕ
later first None = first
later first (Some b) = Some b

-- the byte that the last of these writes puts into a cell
abbrev pub written_in : List WriteAt → ℕ → Option ℕ
written_in [] a = None
written_in (w ∷ writes) a = later (byte_in w a) (written_in writes a)
