-- Reads against the lengths of read items, and places against those of compare items.
use Rattle.std.proofs.Common.{◌≡◌, ℕ, zero, suc, ◌+◌, ◌<◌, ◌≤◌, ◌==◌, ◌&&◌, ◌||◌, Bool, true, false, cond, List, [], ◌∷◌, drop, length, Option, Some, None, refl, sym, ap, ◌∙◌, arith}
use Rattle.std.specs.Prelude.{slice_get, slice_index_or}
use Rattle.std.specs.List.{list_any}
use Rattle.std.proofs.lemmas.Bool.{eqb-true, eqb-false, eq-eqb, ne_eqb}
use Rattle.mini_tx.specs.declared.item.Item.{Item}
use Rattle.mini_tx.specs.Minitransactions.{memory_of}
use Rattle.tx_coord.specs.Rules.{compares_at, have_lengths, is_compare, length_before, placed_from, read_lengths}

-- numbers are the same where the next ones are
next_same : (n m : ℕ) → (suc n == suc m) ≡ (n == m)
next_same n m = go (n == m) refl
  where
    go : (b : Bool) → (n == m) ≡ b → (suc n == suc m) ≡ b
    go true e = eq-eqb (suc n) (suc m) (ap (λ (k : ℕ). suc k) (eqb-true n m e))
    go false e = ne_eqb (suc n) (suc m) (λ s. eqb-false n m e (omega (arith, s)))

-- with no length left, no read may be left
pub all_taken : (reads : List (List ℕ)) (next : ℕ) → next ≤ length reads → (next == length reads) ≡ have_lengths [] (drop next reads)
all_taken [] zero below = refl
all_taken [] (suc n) below = absurd (omega (arith, below))
all_taken (bytes ∷ reads) zero below = ne_eqb 0 (suc (length reads)) (λ e. omega (arith, e))
all_taken (bytes ∷ reads) (suc n) below = next_same n (length reads) ∙ all_taken reads n (omega (arith, below))

-- the lengths of a memory node's read items, without their places
abbrev pub lengths_for : ℕ → List Item → List ℕ
lengths_for m [] = []
lengths_for m (i ∷ items) = cond (memory_of i == m) (length_before i (lengths_for m items)) (lengths_for m items)

pub lengths_are : (m place : ℕ) (items : List Item) → lengths_for m items ≡ read_lengths (placed_from m place items)
lengths_are m place [] = refl
lengths_are m place (i ∷ items) = go (memory_of i == m) (lengths_are m (place + 1) items)
  where
    go : (b : Bool) → lengths_for m items ≡ read_lengths (placed_from m (place + 1) items) → cond b (length_before i (lengths_for m items)) (lengths_for m items)
        ≡ read_lengths (cond b (record { place = place; item = i } ∷ placed_from m (place + 1) items) (placed_from m (place + 1) items))
    go true rest = ap (length_before i) rest
    go false rest = rest

-- places before the first are of no item
none_before : (m place from : ℕ) (items : List Item) → place < from → list_any (compares_at place) (placed_from m from items) ≡ false
none_before m place from [] below = refl
none_before m place from (i ∷ items) below = go (memory_of i == m) (none_before m place (from + 1) items (omega (arith, below)))
  where
    go : (b : Bool) → list_any (compares_at place) (placed_from m (from + 1) items) ≡ false
        → list_any (compares_at place) (cond b (record { place = from; item = i } ∷ placed_from m (from + 1) items) (placed_from m (from + 1) items)) ≡ false
    go true rest =
        ap (λ b. (b && is_compare i) || list_any (compares_at place) (placed_from m (from + 1) items)) (ne_eqb from place (λ e. omega (arith, e, below))) ∙ rest
    go false rest = rest

-- whether this item compares, and is of this memory node
abbrev pub is_compared : ℕ → Option Item → Bool
is_compared m None = false
is_compared m (Some i) = (memory_of i == m) && is_compare i

pub compared_from : (m from place : ℕ) (items : List Item) → list_any (compares_at (from + place)) (placed_from m from items) ≡ is_compared m (slice_get items place)
compared_from m from place [] = refl
compared_from m from zero (i ∷ items) = go (memory_of i == m)
  where
    or_false : (b : Bool) → (b || false) ≡ b
    or_false true = refl
    or_false false = refl

    rest : list_any (compares_at (from + 0)) (placed_from m (from + 1) items) ≡ false
    rest = none_before m (from + 0) (from + 1) items (omega arith)

    go : (b : Bool) → list_any (compares_at (from + 0)) (cond b (record { place = from; item = i } ∷ placed_from m (from + 1) items) (placed_from m (from + 1) items)) ≡ (b && is_compare i)
    go true =
        ap (λ b. (b && is_compare i) || list_any (compares_at (from + 0)) (placed_from m (from + 1) items)) (eq-eqb from (from + 0) (omega arith))
        ∙ ap (λ b. is_compare i || b) rest ∙ or_false (is_compare i)
    go false = rest
compared_from m from (suc place) (i ∷ items) =
    let same : from + suc place ≡ (from + 1) + place = omega arith in
    go (memory_of i == m) (ap (λ n. list_any (compares_at n) (placed_from m (from + 1) items)) same ∙ compared_from m (from + 1) place items)
  where
    go : (b : Bool) → list_any (compares_at (from + suc place)) (placed_from m (from + 1) items) ≡ is_compared m (slice_get items place)
        → list_any (compares_at (from + suc place)) (cond b (record { place = from; item = i } ∷ placed_from m (from + 1) items) (placed_from m (from + 1) items))
        ≡ is_compared m (slice_get items place)
    go true rest =
        ap (λ b. (b && is_compare i) || list_any (compares_at (from + suc place)) (placed_from m (from + 1) items)) (ne_eqb from (from + suc place) (λ e. omega (arith, e))) ∙ rest
    go false rest = rest

-- the item at a place decides whether one of its compares there
pub compared : (m place : ℕ) (items : List Item) → list_any (compares_at place) (placed_from m 0 items) ≡ is_compared m (slice_get items place)
compared m place items = let same : place ≡ 0 + place = omega arith in ap (λ n. list_any (compares_at n) (placed_from m 0 items)) same ∙ compared_from m 0 place items

item_there : (items : List Item) (place : ℕ) (i : Item) → place < length items → i ≡ slice_index_or items place i → slice_get items place ≡ Some i
item_there [] place i below same = absurd (omega (arith, below))
item_there (x ∷ items) zero i below same = ap Some (sym same)
item_there (x ∷ items) (suc place) i below same = item_there items place i (omega (arith, below)) same

none_past : (items : List Item) (place : ℕ) → length items ≤ place → slice_get items place ≡ None
none_past [] place over = refl
none_past (x ∷ items) zero over = absurd (omega (arith, over))
none_past (x ∷ items) (suc place) over = none_past items place (omega (arith, over))

pub compared_there : (m place : ℕ) (items : List Item) (i : Item) → place < length items → i ≡ slice_index_or items place i
    → ((memory_of i == m) && is_compare i) ≡ list_any (compares_at place) (placed_from m 0 items)
compared_there m place items i below same = sym (compared m place items ∙ ap (is_compared m) (item_there items place i below same))

pub compared_past : (m place : ℕ) (items : List Item) → length items ≤ place → false ≡ list_any (compares_at place) (placed_from m 0 items)
compared_past m place items over = sym (compared m place items ∙ ap (is_compared m) (none_past items place over))
