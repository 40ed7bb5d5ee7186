-- Minitransactions over byte lists fit the table of the machine, and do the same to the flat memory.
use Rattle.std.proofs.Common.{◌≡◌, ℕ, ◌+◌, ◌-◌, nat_lt, nat_le, ◌==◌, Bool, true, false, cond, ◌&&◌, ◌||◌, List, [], ◌∷◌, map, length, get_or, Option, Some, None, unwrap_or, ◌⊎◌, inl, inr, refl, sym, ap, subst, ◌∙◌, arith}
use Rattle.std.specs.Prelude.{set}
use Rattle.std.specs.List.{AllByRecursion, list_any}
use Rattle.std.proofs.lemmas.Bool.{eqb-true, eqb-false, eq-eqb, leb-true, ltb-true, and_parts, cases_eq}
use Rattle.std.proofs.lemmas.List.{length-set, get_or-set_same, get_or-set_other}
use Rattle.std.proofs.lemmas.List.Elements.{All-from_recursion, recursion_from_All}
use Rattle.mini_tx.specs.declared.item.Item.{Item}
use Rattle.mini_tx.specs.declared.item.Item.TheVariants.{Compare, Read, Write}
use Rattle.mini_tx.specs.declared.placed_item.PlacedItem.{PlacedItem}
use Rattle.mini_tx.specs.declared.range.Range.{Range}
use Rattle.mini_tx.specs.declared.write_at.WriteAt.{WriteAt}
use Rattle.mini_tx.specs.FlatMemory.{Flat, held_by, bytes_at, with_bytes, ItemMatches, reads, after, IsWithin}
use Rattle.mini_tx.specs.Minitransactions.{memory_of, place_of, bytes_of, is_write, refusal}
use Rattle.mem_rules.specs.Items.{range_of, write_before, writes_of, any_write}
use Rattle.mem_rules.specs.Rules as node
use Rattle.tx_rules.specs.Mini as table
use Rattle.tx_rules.specs.Mini.{In, Want, Mini, IsMini, Memory, Setting, has_several, flat}
use Rattle.tx_rules.proofs.FaithfulLemmas.{in_front, in_back, in_either}
use Rattle.tx_actors.proofs.TestLemmas.{sorted-In, map-In}
use Rattle.mem_laws.specs.Cells.{cells_from, cells_in, wants_from, wants_before, wants_of, read_before, read_cells, byte_in, later, written_in}
use Rattle.mem_laws.specs.Minis.{placed_from, placed_for, participants_of, mini_of, ValidMinisFit, MinisAreTold, cells_of_bytes, MinisMatchAlike, MinisReadAlike, MinisWriteAlike, flat_after, FlatMemoriesAreAlike}
use Rattle.mem_laws.proofs.CellLemmas.{from_in}
use Rattle.mem_laws.proofs.ImageLemmas.{bytes_of_cells, length_with, byte_is}
use Rattle.mem_laws.proofs.VoteLemmas.{several_is}

-- ---- an entry that fits

-- the cells of one range
range_In : (ranges : List Range) (r : Range) (a : ℕ) → In r ranges → In a (cells_from r.at r.length) → In a (cells_in ranges)
range_In [] r a h is = absurd h
range_In (x ∷ ranges) r a h is = elim h [
  | inl e ↦ in_front a (cells_from x.at x.length) (cells_in ranges) (subst (λ (y : Range). In a (cells_from y.at y.length)) e is)
  | inr rest ↦ in_back a (cells_from x.at x.length) (cells_in ranges) (range_In ranges r a rest is)
]

-- a cell of an item is touched
touched : (items : List PlacedItem) (p : PlacedItem) (a : ℕ) → In p items → In a (cells_from (place_of p.item) (bytes_of p.item)) → In a (cells_in (map range_of items))
touched items p a h is = range_In (map range_of items) (range_of p) a (map-In range_of p items h) is

want_cell : (item at : ℕ) (bytes : List ℕ) (want : Want) → In want (wants_from item at bytes) → In want.cell (cells_from at (length bytes))
want_cell item at [] want h = absurd h
want_cell item at (b ∷ bytes) want h = elim h [ inl e ↦ inl (ap (λ (w : Want). w.cell) e) | inr rest ↦ inr (want_cell item (at + 1) bytes want rest) ]

-- what is compared is of an item
pub want_item : (items : List PlacedItem) (want : Want) → In want (wants_of items) → (p : PlacedItem) × In p items × In want.cell (cells_from (place_of p.item) (bytes_of p.item))
want_item [] want h = absurd h
want_item (p ∷ items) want h = elim (go p.item refl h) [
  | inl here ↦ (p, inl refl, here)
  | inr rest ↦ let it = want_item items want rest in (it.0, inr it.1, it.2)
]
  where
    go : (i : Item) → p.item ≡ i → In want (wants_before p.place i (wants_of items)) → In want.cell (cells_from (place_of p.item) (bytes_of p.item)) ⊎ In want (wants_of items)
    go (Compare memory at bytes) is k = elim (in_either want (wants_from p.place at bytes) (wants_of items) k) [
      | inl here ↦ inl (subst (λ (x : Item). In want.cell (cells_from (place_of x) (bytes_of x))) (sym is) (want_cell p.place at bytes want here))
      | inr rest ↦ inr rest
    ]
    go (Read memory at n) is k = inr k
    go (Write memory at bytes) is k = inr k

read_item : (items : List PlacedItem) (cells : List ℕ) (a : ℕ) → In cells (read_cells items) → In a cells → (p : PlacedItem) × In p items × In a (cells_from (place_of p.item) (bytes_of p.item))
read_item [] cells a h is = absurd h
read_item (p ∷ items) cells a h is = elim (go p.item refl h) [
  | inl here ↦ (p, inl refl, here)
  | inr rest ↦ let it = read_item items cells a rest is in (it.0, inr it.1, it.2)
]
  where
    go : (i : Item) → p.item ≡ i → In cells (read_before i (read_cells items)) → In a (cells_from (place_of p.item) (bytes_of p.item)) ⊎ In cells (read_cells items)
    go (Compare memory at bytes) same k = inr k
    go (Read memory at n) same k = elim k [
      | inl e ↦ inl (subst (λ (x : Item). In a (cells_from (place_of x) (bytes_of x))) (sym same) (subst (In a) e is))
      | inr rest ↦ inr rest
    ]
    go (Write memory at bytes) same k = inr k

-- a write that puts a byte covers the cell
covers : (w : WriteAt) (a v : ℕ) → byte_in w a ≡ Some v → In a (cells_from w.at (length w.bytes))
covers w a v h = go (nat_le w.at a && nat_lt a (w.at + length w.bytes)) refl h
  where
    go : (b : Bool) → (nat_le w.at a && nat_lt a (w.at + length w.bytes)) ≡ b → cond b (Some (get_or w.bytes (a - w.at) 0)) None ≡ Some v → In a (cells_from w.at (length w.bytes))
    go true is e = let both = and_parts (nat_le w.at a) (nat_lt a (w.at + length w.bytes)) is in from_in w.at (length w.bytes) a (leb-true w.at a both.0) (ltb-true a (w.at + length w.bytes) both.1)
    go false is e = absurd cc

written_item : (items : List PlacedItem) (a v : ℕ) → written_in (writes_of items) a ≡ Some v
    → (p : PlacedItem) × In p items × In a (cells_from (place_of p.item) (bytes_of p.item)) × (is_write p.item ≡ true)
written_item [] a v h = absurd cc
written_item (p ∷ items) a v h = elim (go p.item refl h) [
  | inl here ↦ (p, inl refl, here.0, here.1)
  | inr rest ↦ let it = written_item items a v rest in (it.0, inr it.1, it.2, it.3)
]
  where
    either : (first rest : Option ℕ) → later first rest ≡ Some v → (rest ≡ Some v) ⊎ (first ≡ Some v)
    either first None e = inr e
    either first (Some b) e = inl e

    go : (i : Item) → p.item ≡ i → written_in (write_before i (writes_of items)) a ≡ Some v
        → (In a (cells_from (place_of p.item) (bytes_of p.item)) × (is_write p.item ≡ true)) ⊎ (written_in (writes_of items) a ≡ Some v)
    go (Compare memory at bytes) is k = inr k
    go (Read memory at n) is k = inr k
    go (Write memory at bytes) is k = elim (either (byte_in (record { at = at; bytes = bytes }) a) (written_in (writes_of items) a) k) [
      | inl rest ↦ inr rest
      | inr here ↦ inl (
        subst (λ (x : Item). In a (cells_from (place_of x) (bytes_of x))) (sym is) (covers (record { at = at; bytes = bytes }) a v here),
        ap is_write is,
      )
    ]

-- an item of a memory node is one of all
pub placed_In : (place : ℕ) (items : List Item) (m : ℕ) (p : PlacedItem) → In p (placed_from place items m) → In p.item items × (memory_of p.item ≡ m)
placed_In place [] m p h = absurd h
placed_In place (i ∷ items) m p h = go (memory_of i == m) refl (placed_In (place + 1) items m p) h
  where
    go : (b : Bool) → (memory_of i == m) ≡ b → (In p (placed_from (place + 1) items m) → In p.item items × (memory_of p.item ≡ m))
        → In p (cond b (record { place = place; item = i } ∷ placed_from (place + 1) items m) (placed_from (place + 1) items m)) → In p.item (i ∷ items) × (memory_of p.item ≡ m)
    go true is rest k = elim k [
      | inl e ↦ (inl (ap (λ (x : PlacedItem). x.item) e), ap (λ (x : PlacedItem). memory_of x.item) e ∙ eqb-true (memory_of i) m is)
      | inr old ↦ let it = rest old in (inr it.0, it.1)
    ]
    go false is rest k = let it = rest k in (inr it.0, it.1)

any_In : (items : List Item) (i : Item) → In i items → is_write i ≡ true → list_any is_write items ≡ true
any_In [] i h is = absurd h
any_In (x ∷ items) i h is = elim h [
  | inl e ↦ ap (λ b. b || list_any is_write items) (ap is_write (sym e) ∙ is)
  | inr rest ↦ or_true (is_write x) (any_In items i rest is)
]
  where
    or_true : (b : Bool) → list_any is_write items ≡ true → (b || list_any is_write items) ≡ true
    or_true true e = refl
    or_true false e = e

pub valid_minis_fit : ValidMinisFit
valid_minis_fit items memories size valid = record {
  participant = some items valid;
  compared = λ m want h. let it = want_item (placed_for items m) want h in touched (placed_for items m) it.0 want.cell it.1 it.2;
  read = λ m a cells h is. let it = read_item (placed_for items m) cells a h is in touched (placed_for items m) it.0 a it.1 it.2;
  written = λ m a v h.
      let it = written_item (placed_for items m) a v h in
      let from = placed_In 0 items m it.0 it.1 in (
        subst (λ (n : ℕ). In n (participants_of items)) from.1 (sorted-In (memory_of it.0.item) (map memory_of items) (map-In memory_of it.0.item items from.0)),
        touched (placed_for items m) it.0 a it.1 it.2,
      );
  quiet = λ none m a. no_write none m a (written_in (writes_of (placed_for items m)) a) refl;
}
  where
    some : (items : List Item) → refusal items memories size ≡ None → (m : ℕ) × In m (participants_of items)
    some [] valid = absurd cc
    some (i ∷ items) valid = (memory_of i, sorted-In (memory_of i) (map memory_of (i ∷ items)) (inl refl))

    no_write : list_any is_write items ≡ false → (m a : ℕ) (o : Option ℕ) → written_in (writes_of (placed_for items m)) a ≡ o → o ≡ None
    no_write none m a None is = refl
    no_write none m a (Some v) is =
        let it = written_item (placed_for items m) a v is in
        let from = placed_In 0 items m it.0 it.1 in
        absurd (let e : true ≡ false = sym (any_In items it.0.item from.0 it.3) ∙ none in cc)

-- ---- what a participant is told

-- with one memory node all items are its
all_at : (place : ℕ) (items : List Item) (m : ℕ) → ((i : Item) → In i items → memory_of i ≡ m) → any_write (placed_from place items m) ≡ list_any is_write items
all_at place [] m all = refl
all_at place (i ∷ items) m all =
    ap (λ b. any_write (cond b (record { place = place; item = i } ∷ placed_from (place + 1) items m) (placed_from (place + 1) items m))) (eq-eqb (memory_of i) m (all i (inl refl)))
    ∙ ap (λ b. is_write i || b) (all_at (place + 1) items m (λ x h. all x (inr h)))

one_of : (nodes : List ℕ) (a b : ℕ) → has_several nodes ≡ false → In a nodes → In b nodes → a ≡ b
one_of [] a b h x y = absurd x
one_of (n ∷ []) a b h x y = elim x [ inl e ↦ elim y [ inl d ↦ e ∙ sym d | inr none ↦ absurd none ] | inr none ↦ absurd none ]
one_of (n ∷ k ∷ nodes) a b h x y = absurd cc

pub minis_are_told : MinisAreTold
minis_are_told s id items coord is m there = record {
  coordinator = coord;
  nodes = ap (λ (x : Mini). x.nodes) is;
  touched = ap (λ (x : Mini). x.cells m) is;
  compared = ap (λ (x : Mini). x.wants m) is;
  read = ap (λ (x : Mini). x.reads m) is;
  written = λ a. ap (λ (x : Mini). x.writes m a) is;
  logged = ap table.is_logged is ∙ ap (λ b. b || list_any is_write items) (several_is (participants_of items)) ∙ go (node.has_several (participants_of items)) (sym (several_is (participants_of items)));
}
  where
    go : (b : Bool) → b ≡ has_several (participants_of items) → (b || list_any is_write items) ≡ (b || any_write (placed_for items m))
    go true e = refl
    go false e = sym (all_at 0 items m (λ i h.
        one_of (participants_of items) (memory_of i) m (sym e) (sorted-In (memory_of i) (map memory_of items) (map-In memory_of i items h)) there))

-- ---- matching

-- all wanted bytes of an item stand there exactly where its bytes do
same_bytes : (item at : ℕ) (bytes : List ℕ) (f : ℕ → ℕ) → map f (cells_from at (length bytes)) ≡ bytes → (want : Want) → In want (wants_from item at bytes) → f want.cell ≡ want.byte
same_bytes item at [] f e want h = absurd h
same_bytes item at (b ∷ bytes) f e want h =
    let both = parts (f at) b (map f (cells_from (at + 1) (length bytes))) bytes e in
    elim h [
      | inl here ↦ subst (λ (w : Want). f w.cell ≡ w.byte) (sym here) both.0
      | inr rest ↦ same_bytes item (at + 1) bytes f both.1 want rest
    ]
  where
    parts : (x y : ℕ) (xs ys : List ℕ) → ◌≡◌ {A = List ℕ} (x ∷ xs) (y ∷ ys) → (x ≡ y) × (xs ≡ ys)
    parts x y xs ys e = (cc, cc)

bytes_same : (item at : ℕ) (bytes : List ℕ) (f : ℕ → ℕ) → ((want : Want) → In want (wants_from item at bytes) → f want.cell ≡ want.byte) → map f (cells_from at (length bytes)) ≡ bytes
bytes_same item at [] f all = refl
bytes_same item at (b ∷ bytes) f all =
    ap (λ (x : ℕ). x ∷ map f (cells_from (at + 1) (length bytes))) (all (record { cell = at; byte = b; item = item }) (inl refl))
    ∙ ap (λ (xs : List ℕ). b ∷ xs) (bytes_same item (at + 1) bytes f (λ want h. all want (inr h)))

module _ (bytes : Flat) where
  cell : ℕ → ℕ → ℕ
  cell m a = get_or (held_by bytes m) a 0

  abbrev AreWithinAll : List Item → Type 0
  AreWithinAll items = AllByRecursion (IsWithin bytes) items

  forth : (place : ℕ) (items : List Item) → AreWithinAll items → AllByRecursion (ItemMatches bytes) items → (m : ℕ) (want : Want)
      → In want (wants_of (placed_from place items m)) → cell m want.cell ≡ want.byte
  unfolding cell
  forth place [] within match m want h = absurd h
  forth place (i ∷ items) within match m want h = go (memory_of i == m) refl (forth (place + 1) items within.1 match.1 m want) h
    where
      here : (x : Item) → IsWithin bytes x → ItemMatches bytes x → memory_of x ≡ m → (In want (wants_of (placed_from (place + 1) items m)) → get_or (held_by bytes m) want.cell 0 ≡ want.byte)
          → In want (wants_before place x (wants_of (placed_from (place + 1) items m))) → get_or (held_by bytes m) want.cell 0 ≡ want.byte
      here (Compare memory at wanted) inside match same rest k = elim (in_either want (wants_from place at wanted) (wants_of (placed_from (place + 1) items m)) k) [
        | inl now ↦ subst (λ (n : ℕ). get_or (held_by bytes n) want.cell 0 ≡ want.byte) same
            (same_bytes place at wanted (λ (a : ℕ). get_or (held_by bytes memory) a 0) (sym (bytes_of_cells (held_by bytes memory) at (length wanted) inside.ends) ∙ match) want now)
        | inr old ↦ rest old
      ]
      here (Read memory at n) inside match same rest k = rest k
      here (Write memory at new) inside match same rest k = rest k

      go : (b : Bool) → (memory_of i == m) ≡ b → (In want (wants_of (placed_from (place + 1) items m)) → get_or (held_by bytes m) want.cell 0 ≡ want.byte)
          → In want (wants_of (cond b (record { place = place; item = i } ∷ placed_from (place + 1) items m) (placed_from (place + 1) items m)))
          → get_or (held_by bytes m) want.cell 0 ≡ want.byte
      go true is rest k = here i within.0 match.0 (eqb-true (memory_of i) m is) rest k
      go false is rest k = rest k

  back : (place : ℕ) (items : List Item) → AreWithinAll items
      → ((m : ℕ) (want : Want) → In want (wants_of (placed_from place items m)) → cell m want.cell ≡ want.byte) → AllByRecursion (ItemMatches bytes) items
  unfolding cell
  back place [] within all = tt
  back place (i ∷ items) within all = (one i refl within.0, back (place + 1) items within.1 (λ m want h. all m want (later_want m want h)))
    where
      own : (x : Item) (want : Want) → i ≡ x → In want (wants_before place x []) → In want (wants_of (placed_from place (i ∷ items) (memory_of i)))
      own x want is h = subst (λ b. In want (wants_of (cond b (record { place = place; item = i } ∷ placed_from (place + 1) items (memory_of i)) (placed_from (place + 1) items (memory_of i)))))
          (sym (eq-eqb (memory_of i) (memory_of i) refl)) (more i (subst (λ (y : Item). In want (wants_before place y [])) (sym is) h))
        where
          more : (y : Item) → In want (wants_before place y []) → In want (wants_before place y (wants_of (placed_from (place + 1) items (memory_of i))))
          more (Compare memory at wanted) k = elim (in_either want (wants_from place at wanted) [] k) [
            | inl now ↦ in_front want (wants_from place at wanted) (wants_of (placed_from (place + 1) items (memory_of i))) now
            | inr none ↦ absurd none
          ]
          more (Read memory at n) k = absurd k
          more (Write memory at new) k = absurd k

      later_want : (m : ℕ) (want : Want) → In want (wants_of (placed_from (place + 1) items m)) → In want (wants_of (placed_from place (i ∷ items) m))
      later_want m want h = go (memory_of i == m)
        where
          before : (y : Item) → In want (wants_before place y (wants_of (placed_from (place + 1) items m)))
          before (Compare memory at wanted) = in_back want (wants_from place at wanted) (wants_of (placed_from (place + 1) items m)) h
          before (Read memory at n) = h
          before (Write memory at new) = h

          go : (b : Bool) → In want (wants_of (cond b (record { place = place; item = i } ∷ placed_from (place + 1) items m) (placed_from (place + 1) items m)))
          go true = before i
          go false = h

      one : (x : Item) → i ≡ x → IsWithin bytes x → ItemMatches bytes x
      one (Compare memory at wanted) is inside =
          bytes_of_cells (held_by bytes memory) at (length wanted) inside.ends
          ∙ bytes_same place at wanted (λ (a : ℕ). get_or (held_by bytes memory) a 0) (λ want h.
          subst (λ (x : Item). get_or (held_by bytes (memory_of x)) want.cell 0 ≡ want.byte) is
          (all (memory_of i) want (own (Compare memory at wanted) want is (in_front want (wants_from place at wanted) [] h))))
      one (Read memory at n) is inside = tt
      one (Write memory at new) is inside = tt

  -- ---- reading

  reads_alike : (place : ℕ) (items : List Item) → AreWithinAll items → (m : ℕ)
      → map (map (cell m)) (read_cells (placed_from place items m)) ≡ reads (map (λ (p : PlacedItem). p.item) (placed_from place items m)) bytes
  unfolding cell
  reads_alike place [] within m = refl
  reads_alike place (i ∷ items) within m = go (memory_of i == m) refl (reads_alike (place + 1) items within.1 m)
    where
      rest_of : List PlacedItem
      rest_of = placed_from (place + 1) items m

      here : (x : Item) → IsWithin bytes x → memory_of x ≡ m → (others : List PlacedItem)
          → map (map (λ (a : ℕ). get_or (held_by bytes m) a 0)) (read_cells others) ≡ reads (map (λ (p : PlacedItem). p.item) others) bytes
          → map (map (λ (a : ℕ). get_or (held_by bytes m) a 0)) (read_before x (read_cells others)) ≡ reads (x ∷ map (λ (p : PlacedItem). p.item) others) bytes
      here (Compare memory at wanted) inside same others rest = rest
      here (Read memory at n) inside same others rest =
          ap (λ (xs : List ℕ). xs ∷ map (map (λ (a : ℕ). get_or (held_by bytes m) a 0)) (read_cells others))
          (ap (λ (y : ℕ). map (λ (a : ℕ). get_or (held_by bytes y) a 0) (cells_from at n)) (sym same) ∙ sym (bytes_of_cells (held_by bytes memory) at n inside.ends))
          ∙ ap (λ (xs : List (List ℕ)). bytes_at (held_by bytes memory) at n ∷ xs) rest
      here (Write memory at new) inside same others rest = rest

      go : (b : Bool) → (memory_of i == m) ≡ b
          → map (map (λ (a : ℕ). get_or (held_by bytes m) a 0)) (read_cells (placed_from (place + 1) items m)) ≡ reads (map (λ (p : PlacedItem). p.item) (placed_from (place + 1) items m)) bytes
          → map (map (λ (a : ℕ). get_or (held_by bytes m) a 0)) (read_cells (cond b (record { place = place; item = i } ∷ placed_from (place + 1) items m) (placed_from (place + 1) items m)))
          ≡ reads (map (λ (p : PlacedItem). p.item) (cond b (record { place = place; item = i } ∷ placed_from (place + 1) items m) (placed_from (place + 1) items m))) bytes
      go true is rest = here i within.0 (eqb-true (memory_of i) m is) (placed_from (place + 1) items m) rest
      go false is rest = rest

pub minis_match_alike : MinisMatchAlike
unfolding cell
minis_match_alike s t items bytes is within = (
  λ match m want h.
      forth bytes 0 items (recursion_from_All (IsWithin bytes) items within) (recursion_from_All (ItemMatches bytes) items match) m want
      (subst (λ (x : Mini). In want (x.wants m)) is h),
  λ all. All-from_recursion (ItemMatches bytes) items (back bytes 0 items (recursion_from_All (IsWithin bytes) items within) (λ m want h.
      all m want (subst (λ (x : Mini). In want (x.wants m)) (sym is) h))),
)

pub minis_read_alike : MinisReadAlike
unfolding cell
minis_read_alike s t items bytes is within m =
    ap (λ (x : Mini). map (map (cells_of_bytes bytes m)) (x.reads m)) is ∙ reads_alike bytes 0 items (recursion_from_All (IsWithin bytes) items within) m

-- ---- writing

-- a write keeps the sizes
within_after : (bytes : Flat) (memory at : ℕ) (new : List ℕ) → IsWithin bytes (Write memory at new) → (i : Item) → IsWithin bytes i
    → IsWithin (set bytes memory (with_bytes (held_by bytes memory) at new)) i
within_after bytes memory at new fits i inside = record {
  there = let e = length-set bytes memory (with_bytes (held_by bytes memory) at new) in let t = inside.there in omega (arith, e, t);
  ends = elim (cases_eq (memory_of i) memory) [
    | inl same ↦
        let now : held_by (set bytes memory (with_bytes (held_by bytes memory) at new)) (memory_of i) ≡ with_bytes (held_by bytes memory) at new =
        ap (held_by (set bytes memory (with_bytes (held_by bytes memory) at new))) same ∙ get_or-set_same bytes memory (with_bytes (held_by bytes memory) at new) [] fits.there in
        let size : length (held_by (set bytes memory (with_bytes (held_by bytes memory) at new)) (memory_of i)) ≡ length (held_by bytes (memory_of i)) =
        ap (λ (xs : List ℕ). length xs) now ∙ length_with (held_by bytes memory) (record { at = at; bytes = new }) fits.ends ∙ ap (λ (n : ℕ). length (held_by bytes n)) (sym same) in
        let e = inside.ends in omega (arith, size, e)
    | inr other ↦
        let size = ap (λ (xs : List ℕ). length xs) (get_or-set_other bytes memory (memory_of i) (with_bytes (held_by bytes memory) at new) [] other) in
        let e = inside.ends in omega (arith, size, e)
  ];
}

all_within_after : (bytes : Flat) (memory at : ℕ) (new : List ℕ) → IsWithin bytes (Write memory at new) → (items : List Item) → AllByRecursion (IsWithin bytes) items
    → AllByRecursion (IsWithin (set bytes memory (with_bytes (held_by bytes memory) at new))) items
all_within_after bytes memory at new fits [] within = tt
all_within_after bytes memory at new fits (i ∷ items) within = (within_after bytes memory at new fits i within.0, all_within_after bytes memory at new fits items within.1)

-- after one item
abbrev after_item : Flat → Item → Flat
after_item bytes (Compare memory at wanted) = bytes
after_item bytes (Read memory at n) = bytes
after_item bytes (Write memory at new) = set bytes memory (with_bytes (held_by bytes memory) at new)

after_one : (i : Item) (items : List Item) (bytes : Flat) → after (i ∷ items) bytes ≡ after items (after_item bytes i)
after_one (Compare memory at wanted) items bytes = refl
after_one (Read memory at n) items bytes = refl
after_one (Write memory at new) items bytes = refl

keeps_within : (bytes : Flat) (i : Item) → IsWithin bytes i → (items : List Item) → AllByRecursion (IsWithin bytes) items → AllByRecursion (IsWithin (after_item bytes i)) items
keeps_within bytes (Compare memory at wanted) fits items within = within
keeps_within bytes (Read memory at n) fits items within = within
keeps_within bytes (Write memory at new) fits items within = all_within_after bytes memory at new fits items within

last_first : (last first : Option ℕ) (b : ℕ) → unwrap_or (later first last) b ≡ unwrap_or last (unwrap_or first b)
last_first None first b = refl
last_first (Some x) first b = refl

writes_alike : (place : ℕ) (items : List Item) (bytes : Flat) → AllByRecursion (IsWithin bytes) items → (m a : ℕ)
    → unwrap_or (written_in (writes_of (placed_from place items m)) a) (cells_of_bytes bytes m a) ≡ cells_of_bytes (after items bytes) m a
writes_alike place [] bytes within m a = refl
writes_alike place (i ∷ items) bytes within m a =
    go (memory_of i == m) refl ∙ writes_alike (place + 1) items (after_item bytes i) (keeps_within bytes i within.0 items within.1) m a
    ∙ ap (λ (f : Flat). cells_of_bytes f m a) (sym (after_one i items bytes))
  where
    rest_of : Option ℕ
    rest_of = written_in (writes_of (placed_from (place + 1) items m)) a

    here : (x : Item) → IsWithin bytes x → memory_of x ≡ m
        → unwrap_or (written_in (write_before x (writes_of (placed_from (place + 1) items m))) a) (cells_of_bytes bytes m a)
        ≡ unwrap_or (written_in (writes_of (placed_from (place + 1) items m)) a) (cells_of_bytes (after_item bytes x) m a)
    here (Compare memory at wanted) inside same = refl
    here (Read memory at n) inside same = refl
    here (Write memory at new) inside same =
        last_first (written_in (writes_of (placed_from (place + 1) items m)) a) (byte_in (record { at = at; bytes = new }) a) (cells_of_bytes bytes m a)
        ∙ ap (unwrap_or (written_in (writes_of (placed_from (place + 1) items m)) a))
        (ap (λ (n : ℕ). unwrap_or (byte_in (record { at = at; bytes = new }) a) (get_or (held_by bytes n) a 0)) (sym same)
        ∙ sym (byte_is (held_by bytes memory) (record { at = at; bytes = new }) inside.ends a)
        ∙ ap (λ (xs : List ℕ). get_or xs a 0) (sym (get_or-set_same bytes memory (with_bytes (held_by bytes memory) at new) [] inside.there)
        ∙ ap (held_by (set bytes memory (with_bytes (held_by bytes memory) at new))) same))

    elsewhere : (x : Item) → (memory_of x ≡ m → ⊥) → cells_of_bytes bytes m a ≡ cells_of_bytes (after_item bytes x) m a
    elsewhere (Compare memory at wanted) other = refl
    elsewhere (Read memory at n) other = refl
    elsewhere (Write memory at new) other =
        ap (λ (xs : List ℕ). get_or xs a 0) (sym (get_or-set_other bytes memory m (with_bytes (held_by bytes memory) at new) [] (λ e. other (sym e))))

    go : (b : Bool) → (memory_of i == m) ≡ b
        → unwrap_or (written_in (writes_of (cond b (record { place = place; item = i } ∷ placed_from (place + 1) items m) (placed_from (place + 1) items m))) a) (cells_of_bytes bytes m a)
        ≡ unwrap_or (written_in (writes_of (placed_from (place + 1) items m)) a) (cells_of_bytes (after_item bytes i) m a)
    go true is = here i within.0 (eqb-true (memory_of i) m is)
    go false is = ap (unwrap_or (written_in (writes_of (placed_from (place + 1) items m)) a)) (elsewhere i (eqb-false (memory_of i) m is))

pub minis_write_alike : MinisWriteAlike
minis_write_alike s t items bytes is within m a =
    ap (λ (x : Mini). unwrap_or (x.writes m a) (cells_of_bytes bytes m a)) is ∙ writes_alike 0 items bytes (recursion_from_All (IsWithin bytes) items within) m a

-- ---- the flat memory

-- what lies within one memory lies within it after writes
pub still_within : (items : List Item) (bytes : Flat) → AllByRecursion (IsWithin bytes) items → (others : List Item) → AllByRecursion (IsWithin bytes) others
    → AllByRecursion (IsWithin (after items bytes)) others
still_within [] bytes within others all = all
still_within (i ∷ items) bytes within others all =
    subst (λ (f : Flat). AllByRecursion (IsWithin f) others) (sym (after_one i items bytes))
    (still_within items (after_item bytes i) (keeps_within bytes i within.0 items within.1) others (keeps_within bytes i within.0 others all))

module _ (begun : ℕ → List Item) (bytes : Flat) where
  within_flat : (points : List ℕ) → ((t : ℕ) → In t points → AllByRecursion (IsWithin bytes) (begun t)) → (others : List Item) → AllByRecursion (IsWithin bytes) others
      → AllByRecursion (IsWithin (flat_after begun bytes points)) others
  within_flat [] all others within = within
  within_flat (t ∷ points) all others within =
      still_within (begun t) (flat_after begun bytes points) (within_flat points (λ u h. all u (inr h)) (begun t) (all t (inl refl))) others
      (within_flat points (λ u h. all u (inr h)) others within)

  flat_is : (s : Setting) (points : List ℕ) → ((m a : ℕ) → s.start m a ≡ cells_of_bytes bytes m a) → ((t : ℕ) → In t points → s.mini t ≡ mini_of (begun t))
      → ((t : ℕ) → In t points → AllByRecursion (IsWithin bytes) (begun t)) → (m a : ℕ) → flat s points m a ≡ cells_of_bytes (flat_after begun bytes points) m a
  flat_is s [] start minis within m a = start m a
  flat_is s (t ∷ points) start minis within m a =
      ap (unwrap_or ((s.mini t).writes m a)) (flat_is s points start (λ u h. minis u (inr h)) (λ u h. within u (inr h)) m a)
      ∙ ap (λ (x : Mini). unwrap_or (x.writes m a) (cells_of_bytes (flat_after begun bytes points) m a)) (minis t (inl refl))
      ∙ writes_alike 0 (begun t) (flat_after begun bytes points) (within_flat points (λ u h. within u (inr h)) (begun t) (within t (inl refl))) m a

pub flat_memories_are_alike : FlatMemoriesAreAlike
flat_memories_are_alike s begun bytes points are =
    flat_is begun bytes s points are.start are.minis (λ t h. recursion_from_All (IsWithin bytes) (begun t) (are.within t h))
