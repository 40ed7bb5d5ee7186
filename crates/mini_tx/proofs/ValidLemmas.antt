-- Where the items of a minitransaction lie.
use Rattle.std.proofs.Common.{◌≡◌, ℕ, zero, suc, ◌+◌, ◌<◌, ◌≤◌, Bool, true, false, ◌||◌, cond, List, [], ◌∷◌, length, get_or, Option, Some, None, ltb, leb, eqb, refl, sym, ap, ◌∙◌, arith}
use Rattle.std.specs.Prelude.{◌==◌, All}
use Rattle.std.proofs.lemmas.Bool.{ltb-false, leb-false}
use Rattle.std.proofs.lemmas.List.{get_or_default}
use Rattle.mini_tx.specs.declared.item.Item.{Item}
use Rattle.mini_tx.specs.declared.mini_fault.MiniFault.TheVariants as fault
use Rattle.mini_tx.specs.Minitransactions.{memory_of, place_of, bytes_of, bytes_of_all, is_outside, first_outside, place_refusal, refusal}
use Rattle.mini_tx.specs.FlatMemory.{Flat, held_by, IsWithin, ValidItemsLieWithin}

-- what a test did not refuse, the rest did not either
passed : {X : Type 0} (b : Bool) (x : X) (rest : Option X) → cond b (Some x) rest ≡ None → rest ≡ None
passed true x rest e = absurd cc
passed false x rest e = e

none_outside : (items : List Item) (memories size : ℕ) → refusal items memories size ≡ None → first_outside memories size 0 items ≡ None
none_outside items memories size e =
    go (first_outside memories size 0 items) refl
    (passed (ltb 1048576 (bytes_of_all items)) fault.TooLarge _
    (passed (ltb 512 (length items)) fault.TooManyItems _ (passed (length items == 0) fault.Empty _ e)))
  where
    go : (o : Option ℕ) → first_outside memories size 0 items ≡ o → place_refusal o items ≡ None → first_outside memories size 0 items ≡ None
    go None is told = is
    go (Some at) is told = absurd cc

-- no item is outside, where none is the first
inside : (memories size at : ℕ) (items : List Item) → first_outside memories size at items ≡ None → (k : ℕ) (d : Item) → k < length items
    → is_outside memories size (get_or items k d) ≡ false
inside memories size at [] e k d below = absurd (omega (arith, below))
inside memories size at (i ∷ items) e k d below = go (λ told j. inside memories size (at + 1) items told j d) (is_outside memories size i) refl e k below
  where
    Rest : Type 0
    Rest = first_outside memories size (at + 1) items ≡ None → (j : ℕ) → j < length items → is_outside memories size (get_or items j d) ≡ false

    go : Rest → (b : Bool) → is_outside memories size i ≡ b → cond b (Some at) (first_outside memories size (at + 1) items) ≡ None → (k : ℕ) → k < length (i ∷ items)
        → is_outside memories size (get_or (i ∷ items) k d) ≡ false
    go rest true is told k below = absurd cc
    go rest false is told zero below = is
    go rest false is told (suc k) below = rest told k (omega (arith, below))

-- what is not outside
within_bounds : (memories size : ℕ) (i : Item) → is_outside memories size i ≡ false → (memory_of i < memories) × (place_of i + bytes_of i ≤ size)
within_bounds memories size i e = go (eqb (bytes_of i) 0) (leb memories (memory_of i)) (ltb size (place_of i + bytes_of i)) refl refl e
  where
    go : (a b c : Bool) → leb memories (memory_of i) ≡ b → ltb size (place_of i + bytes_of i) ≡ c → (a || (b || c)) ≡ false
        → (memory_of i < memories) × (place_of i + bytes_of i ≤ size)
    go true b c p q told = absurd cc
    go false true c p q told = absurd cc
    go false false true p q told = absurd cc
    go false false false p q told = (leb-false _ _ p, ltb-false _ _ q)

pub valid_within : ValidItemsLieWithin
valid_within items flat size e sized k d below =
    let i = get_or items k d in
    let w = within_bounds (length flat) size i (inside (length flat) size 0 items (none_outside items (length flat) size e) k d below) in
    let here : length (held_by flat (memory_of i)) ≡ size = sized (memory_of i) [] w.0 in
    record { there = w.0; ends = omega (arith, w.1, here) }
