-- The slot of a name.
use Rattle.std.proofs.Common.{◌≡◌, ℕ, zero, suc, ◌+◌, Bool, true, false, cond, List, [], ◌∷◌, ◌++◌, Option, Some, None, length, replicate, refl, sym, ap, ◌∙◌, arith, length-append}
use Rattle.std.specs.Prelude.{is_some, is_none, nat_lt, not, position, slice_set, option_map}
use Rattle.std.specs.Option.{option_map_or, option_or}
use Rattle.std.specs.List.{position_or_len}
use Rattle.std.proofs.lemmas.List.{length-set}
use Rattle.std.proofs.lemmas.Bool.Decides.{nat_tests}
use Rattle.fs_rules.specs.declared.entry.Entry.{Entry}
use Rattle.fs_rules.specs.Slots.{has_name, slot_of, slot_for, with_room, put_name, take_name}

-- ---- the first place at which a test passes

place_later : (n m : ℕ) → cond (nat_lt (1 + n) (suc m)) (Some (1 + n)) None ≡ option_map suc (cond (nat_lt n m) (Some n) None)
place_later n m =
    elim (nat_lt n m) as (λ b. nat_lt n m ≡ b → cond (nat_lt (1 + n) (suc m)) (Some (1 + n)) None ≡ option_map suc (cond b (Some n) None)) [
      | true ↦ λ h. ap (λ b. cond b (Some (1 + n)) None) (let is : nat_lt (1 + n) (suc m) ≡ true = grind (arith, nat_tests) in is) ∙ ap Some (let e : 1 + n ≡ suc n = omega arith in e)
      | false ↦ λ h. ap (λ b. cond b (Some (1 + n)) None) (let is : nat_lt (1 + n) (suc m) ≡ false = grind (arith, nat_tests) in is)
    ] refl

none_later : (o : Option ℕ) → option_map suc o ≡ None → o ≡ None
none_later None h = refl
none_later (Some n) h = absurd (cc)

module _ {X : Type 0} (p : X → Bool) where
  -- where a list begins with an element that passes, or with one that does not
  abbrev placed : Bool → List X → Option ℕ
  placed b xs = cond (nat_lt (cond (not b) (1 + position_or_len p xs) 0) (suc (length xs))) (Some (cond (not b) (1 + position_or_len p xs) 0)) None

  position_here : (x : X) (xs : List X) → p x ≡ true → position p (x ∷ xs) ≡ Some 0
  position_here x xs passes =
      ap (λ b. placed b xs) passes ∙ ap (λ b. cond b (Some 0) None) (let is : nat_lt 0 (suc (length xs)) ≡ true = grind (arith, nat_tests) in is)

  position_later : (x : X) (xs : List X) → p x ≡ false → position p (x ∷ xs) ≡ option_map suc (position p xs)
  position_later x xs fails = ap (λ b. placed b xs) fails ∙ place_later (position_or_len p xs) (length xs)

  -- one of the two holds
  by_test : {P : Type 0} (x : X) → (p x ≡ true → P) → (p x ≡ false → P) → P
  by_test {P} x yes_ no_ = elim (p x) as (λ b. p x ≡ b → P) [ true ↦ yes_ | false ↦ no_ ] refl

  -- behind elements none of which passes
  none_append : (xs ys : List X) → position p xs ≡ None → position p ys ≡ None → position p (xs ++ ys) ≡ None
  none_append [] ys none rest = rest
  none_append (x ∷ xs) ys none rest =
      by_test x
      (λ passes. absurd (let h : Some 0 ≡ None = sym (position_here x xs passes) ∙ none in cc))
      (λ fails. position_later x (xs ++ ys) fails ∙ ap (option_map suc) (none_append xs ys (none_later (position p xs) (sym (position_later x xs fails) ∙ none)) rest))

  found_append : (xs : List X) (y : X) (ys : List X) → position p xs ≡ None → p y ≡ true → position p (xs ++ y ∷ ys) ≡ Some (length xs)
  found_append [] y ys none passes = position_here y ys passes
  found_append (x ∷ xs) y ys none passes =
      by_test x
      (λ passes. absurd (let h : Some 0 ≡ None = sym (position_here x xs passes) ∙ none in cc))
      (λ fails. position_later x (xs ++ y ∷ ys) fails ∙ ap (option_map suc) (found_append xs y ys (none_later (position p xs) (sym (position_later x xs fails) ∙ none)) passes))

  none_repeated : (n : ℕ) (x : X) → p x ≡ false → position p (replicate n x) ≡ None
  none_repeated zero x fails = refl
  none_repeated (suc n) x fails = position_later x (replicate n x) fails ∙ ap (option_map suc) (none_repeated n x fails)

-- ---- the slot of a name

neither : {X : Type 0} (a b : Option X) → option_or a b ≡ None → (a ≡ None) × (b ≡ None)
neither None b h = (refl, h)
neither (Some x) b h = absurd (cc)

either : {X : Type 0} (a b : Option X) (x : X) → a ≡ None → b ≡ Some x → option_or a b ≡ Some x
either None b x none there = there
either (Some y) b x none there = absurd (cc)

module _ (slots : List (Option Entry)) (name : List ℕ) where
  -- where it has one, no slots are added
  pub room_there : (i : ℕ) → slot_for slots name ≡ Some i → with_room slots name ≡ slots
  room_there i there = ap (λ (o : Option ℕ). cond (is_some o) slots (slots ++ replicate 15 None)) there

  pub room_added : slot_for slots name ≡ None → with_room slots name ≡ slots ++ replicate 15 None
  room_added none = ap (λ (o : Option ℕ). cond (is_some o) slots (slots ++ replicate 15 None)) none

  -- the first of the slots that were added
  pub slot_added : (n : ℕ) → slot_for slots name ≡ None → slot_for (slots ++ replicate (suc n) None) name ≡ Some (length slots)
  slot_added n none =
      let before = neither (slot_of slots name) (position is_none slots) none in
      either (slot_of (slots ++ replicate (suc n) None) name) (position is_none (slots ++ replicate (suc n) None)) (length slots)
      (none_append (has_name name) slots (replicate (suc n) None) before.0 (none_repeated (has_name name) (suc n) None refl))
      (found_append is_none slots None (replicate n None) before.1 refl)

module _ (slots : List (Option Entry)) (e : Entry) where
  pub put_there : (i : ℕ) → slot_for slots e.name ≡ Some i → put_name slots e ≡ slice_set slots i (Some e)
  unfolding put_name
  put_there i there =
      ap (λ (room : List (Option Entry)). option_map_or (λ i. slice_set room i (Some e)) (slot_for room e.name) slots) (room_there slots e.name i there)
      ∙ ap (λ o. option_map_or (λ i. slice_set slots i (Some e)) o slots) there

  pub put_added : slot_for slots e.name ≡ None → put_name slots e ≡ slice_set (slots ++ replicate 15 None) (length slots) (Some e)
  unfolding put_name
  put_added none =
      ap (λ (room : List (Option Entry)). option_map_or (λ i. slice_set room i (Some e)) (slot_for room e.name) slots) (room_added slots e.name none)
      ∙ ap (λ o. option_map_or (λ i. slice_set (slots ++ replicate 15 None) i (Some e)) o slots) (slot_added slots e.name 14 none)

  -- how many slots there are then
  pub length_put_there : (i : ℕ) → slot_for slots e.name ≡ Some i → length (put_name slots e) ≡ length slots
  length_put_there i there = ap (length {A = Option Entry}) (put_there i there) ∙ length-set slots i (Some e)

  pub length_put_added : slot_for slots e.name ≡ None → length (put_name slots e) ≡ length slots + 15
  length_put_added none =
      ap (length {A = Option Entry}) (put_added none)
      ∙ length-set (slots ++ replicate 15 None) (length slots) (Some e)
      ∙ length-append slots (replicate 15 None)

-- a name that is taken
module _ (slots : List (Option Entry)) (name : List ℕ) where
  pub take_there : (i : ℕ) → slot_of slots name ≡ Some i → take_name slots name ≡ slice_set slots i None
  unfolding take_name
  take_there i there = ap (λ o. option_map_or (λ i. slice_set slots i None) o slots) there

  pub take_absent : slot_of slots name ≡ None → take_name slots name ≡ slots
  unfolding take_name
  take_absent none = ap (λ o. option_map_or (λ i. slice_set slots i None) o slots) none

  pub length_take : length (take_name slots name) ≡ length slots
  length_take = go (slot_of slots name) refl where
    go : (o : Option ℕ) → slot_of slots name ≡ o → length (take_name slots name) ≡ length slots
    go None is = ap (length {A = Option Entry}) (take_absent is)
    go (Some i) is = ap (length {A = Option Entry}) (take_there i is) ∙ length-set slots i None
