-- Minitransactions over byte lists as entries of the table of the machine, and the flat memory of bytes as its cells.
use Rattle.std.specs.Prelude.{◌≡◌, ◌+◌, ◌==◌, ℕ, List, [], ◌∷◌, map, get_or, ◌↔◌, All, cond, None}
use Rattle.std.specs.List.{list_any}
use Rattle.mini_tx.specs.declared.item.Item.{Item}
use Rattle.mini_tx.specs.declared.placed_item.PlacedItem.{PlacedItem}
use Rattle.mini_tx.specs.declared.tx_id.TxId.{TxId}
use Rattle.mini_tx.specs.FlatMemory.{Flat, held_by, Matches, reads, after, IsWithin}
use Rattle.mini_tx.specs.Minitransactions.{memory_of, is_write, refusal, TakePart}
use Rattle.mem_rules.specs.Items.{range_of, writes_of}
use Rattle.tx_rules.specs.Mini as table
use Rattle.tx_rules.specs.Mini.{In, Mini, IsMini, Memory, Setting, flat}
use Rattle.tx_actors.specs.Node.{sorted}
use Rattle.mem_laws.specs.Cells.{number, cells_in, wants_of, read_cells, written_in}
use Rattle.mem_laws.specs.Shown.{IsTold}

-- ---- the entry of the table

-- the items of a memory node, each with its place among all, counted from this one
abbrev pub placed_from : ℕ → List Item → ℕ → List PlacedItem
placed_from place [] m = []
placed_from place (i ∷ items) m =
    cond (memory_of i == m) (record { place = place; item = i } ∷ placed_from (place + 1) items m) (placed_from (place + 1) items m)

abbrev pub placed_for : List Item → ℕ → List PlacedItem
placed_for items m = placed_from 0 items m

-- the memory nodes of the items, ascending, each once
abbrev pub participants_of : List Item → List ℕ
participants_of items = sorted (map memory_of items)

-- what these items begin, for the machine
abbrev pub mini_of : List Item → Mini
mini_of items =
    record {
      nodes = participants_of items;
      cells = λ m. cells_in (map range_of (placed_for items m));
      wants = λ m. wants_of (placed_for items m);
      reads = λ m. read_cells (placed_for items m);
      writes = λ m. written_in (writes_of (placed_for items m));
      has_write = list_any is_write items;
    }

-- a valid minitransaction gives an entry that fits
abbrev pub ValidMinisFit : Type 0
ValidMinisFit = (items : List Item) (memories size : ℕ) → refusal items memories size ≡ None → IsMini (mini_of items)

-- its participants are those that it has over byte lists
abbrev pub ParticipantsAreTheTables : Type 0
ParticipantsAreTheTables = (items : List Item) (numbers : List ℕ) → TakePart items numbers → numbers ≡ participants_of items

-- where the table has it, each participant is told its own items
abbrev pub MinisAreTold : Type 0
MinisAreTold = (s : Setting) (id : TxId) (items : List Item) → s.coord (number id) ≡ id.coord → s.mini (number id) ≡ mini_of items
    → (m : ℕ) → In m (participants_of items) → IsTold s m id (participants_of items) (placed_for items m)

-- ---- the flat memory

-- the byte in each cell
abbrev pub cells_of_bytes : Flat → Memory
cells_of_bytes bytes m a = get_or (held_by bytes m) a 0

-- the same compare items match, the same bytes are read at each memory node, and the same bytes stand after the writes
abbrev pub MinisMatchAlike : Type 0
MinisMatchAlike = (s : Setting) (t : ℕ) (items : List Item) (bytes : Flat) → s.mini t ≡ mini_of items → All (IsWithin bytes) items
    → Matches items bytes ↔ ((m : ℕ) → table.Matches s t m (cells_of_bytes bytes m))

abbrev pub MinisReadAlike : Type 0
MinisReadAlike = (s : Setting) (t : ℕ) (items : List Item) (bytes : Flat) → s.mini t ≡ mini_of items → All (IsWithin bytes) items
    → (m : ℕ) → table.reads_of s t m (cells_of_bytes bytes m) ≡ reads (map (λ (p : PlacedItem). p.item) (placed_for items m)) bytes

abbrev pub MinisWriteAlike : Type 0
MinisWriteAlike = (s : Setting) (t : ℕ) (items : List Item) (bytes : Flat) → s.mini t ≡ mini_of items → All (IsWithin bytes) items
    → (m a : ℕ) → table.with_writes s t (cells_of_bytes bytes) m a ≡ cells_of_bytes (after items bytes) m a

-- the flat memory after these, listed newest first
abbrev pub flat_after : (ℕ → List Item) → Flat → List ℕ → Flat
flat_after begun bytes [] = bytes
flat_after begun bytes (t ∷ points) = after (begun t) (flat_after begun bytes points)

-- the table has all of these, and their items lie within the memory with which the cluster opens
pub record AreBegun (s : Setting) (begun : ℕ → List Item) (bytes : Flat) (points : List ℕ) : Type 0 where
  pub start : (m a : ℕ) → s.start m a ≡ cells_of_bytes bytes m a
  pub minis : (t : ℕ) → In t points → s.mini t ≡ mini_of (begun t)
  pub within : (t : ℕ) → In t points → All (IsWithin bytes) (begun t)

-- the flat memory of cells is the one of bytes, at each place of the history
abbrev pub FlatMemoriesAreAlike : Type 0
FlatMemoriesAreAlike = (s : Setting) (begun : ℕ → List Item) (bytes : Flat) (points : List ℕ) → AreBegun s begun bytes points
    → (m a : ℕ) → flat s points m a ≡ cells_of_bytes (flat_after begun bytes points) m a
