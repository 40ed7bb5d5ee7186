-- Entries that are put and changed at their places.
use Rattle.std.proofs.Common.{◌≡◌, ℕ, suc, ◌+◌, ◌<◌, ◌≤◌, true, false, cond, Bool, List, [], ◌∷◌, set, Option, Some, None, Result, Ok, Err, OnOk, refl, sym, ap, subst, ◌∙◌, arith}
use Rattle.std.specs.Prelude.{not, nat_eq, nat_le, nat_lt, find, length, position, insert, slice_get, get_or, IsSome, is_some}
use Rattle.std.specs.List.{position_or_len}
use Rattle.std.proofs.lemmas.Bool.{ltb-true, ltb-false, lt-ltb}
use Rattle.std.proofs.lemmas.List.Folds.{find_at}
use Rattle.std.proofs.lemmas.Option.{slice_get_within}
use Rattle.node_cache.specs.declared.entry.Entry.{Entry}
use Rattle.plan_rules.specs.Fetched.{changed_in, put_entry}
use Rattle.plan_parts.specs.Entries.{is_number_at}

-- what holds of a call that succeeded gives something else
pub on_ok : {X E P Q : Type 0} → (r : Result X E) → OnOk r P → (P → Q) → OnOk r Q
on_ok (Ok x) is go = go is
on_ok (Err e) is go = tt

module _ {X : Type 0} (p : X → Bool) where
  most_by : (xs : List X) (b : Bool) → position_or_len p xs ≤ length xs → cond (not b) (1 + position_or_len p xs) 0 ≤ suc (length xs)
  most_by xs true most = omega arith
  most_by xs false most = omega (arith, most)

  pub at_most : (xs : List X) → position_or_len p xs ≤ length xs
  at_most [] = omega arith
  at_most (x ∷ xs) = most_by xs (p x) (at_most xs)

  some_by : (xs : List X) (i : ℕ) (b : Bool) → nat_lt (position_or_len p xs) (length xs) ≡ b → cond b (Some (position_or_len p xs)) None ≡ Some i
      → (i ≡ position_or_len p xs) × (i < length xs)
  some_by xs i true below is =
      let same : position_or_len p xs ≡ i = cc in (sym same, subst (λ k. k < length xs) same (ltb-true (position_or_len p xs) (length xs) below))
  some_by xs i false below is = absurd cc

  pub some_at : (xs : List X) (i : ℕ) → position p xs ≡ Some i → (i ≡ position_or_len p xs) × (i < length xs)
  some_at xs i is = some_by xs i (nat_lt (position_or_len p xs) (length xs)) refl is

  none_by : (xs : List X) (b : Bool) → nat_lt (position_or_len p xs) (length xs) ≡ b → cond b (Some (position_or_len p xs)) None ≡ None
      → length xs ≡ position_or_len p xs
  none_by xs true below is = absurd cc
  none_by xs false below is = let past = ltb-false (position_or_len p xs) (length xs) below in let most = at_most xs in omega (arith, past, most)

  pub none_at : (xs : List X) → position p xs ≡ None → length xs ≡ position_or_len p xs
  none_at xs is = none_by xs (nat_lt (position_or_len p xs) (length xs)) refl is

  found_by : (xs : List X) (o : Option X) → slice_get xs (position_or_len p xs) ≡ o → is_some o ≡ true → position_or_len p xs < length xs
  found_by xs None at is = absurd cc
  found_by xs (Some x) at is = slice_get_within xs (position_or_len p xs) x at

  -- where one is found there is a place
  pub found_at : (xs : List X) → IsSome (find p xs) → position_or_len p xs < length xs
  found_at xs is = found_by xs (slice_get xs (position_or_len p xs)) refl (subst (λ o. is_some o ≡ true) (find_at p xs) is)

  pub there_is : (xs : List X) → IsSome (find p xs) → position p xs ≡ Some (position_or_len p xs)
  there_is xs is = ap (λ b. cond b (Some (position_or_len p xs)) None) (lt-ltb (position_or_len p xs) (length xs) (found_at xs is))

-- ---- an entry that is changed

module _ (n : ℕ) (change : Entry → Entry) (d : Entry) where
  abbrev place : List Entry → ℕ
  place xs = position_or_len (λ e. nat_eq n e.number) xs

  changed_by : (x : Entry) (xs : List Entry) (b : Bool) → (place xs < length xs → set xs (place xs) (change (get_or xs (place xs) d)) ≡ changed_in n change xs)
      → cond (not b) (1 + place xs) 0 < suc (length xs)
      → set (x ∷ xs) (cond (not b) (1 + place xs) 0) (change (get_or (x ∷ xs) (cond (not b) (1 + place xs) 0) d)) ≡ cond b (change x ∷ xs) (x ∷ changed_in n change xs)
  changed_by x xs true same below = refl
  changed_by x xs false same below =
      let more : 1 + place xs ≡ suc (place xs) = omega arith in
      subst (λ k. set (x ∷ xs) k (change (get_or (x ∷ xs) k d)) ≡ x ∷ changed_in n change xs) (sym more) (ap (λ ys. x ∷ ys) (same (omega (arith, below))))

  pub changed_is : (xs : List Entry) → place xs < length xs → set xs (place xs) (change (get_or xs (place xs) d)) ≡ changed_in n change xs
  unfolding changed_in
  changed_is [] below = absurd (omega (arith, below))
  changed_is (x ∷ xs) below = changed_by x xs (nat_eq n x.number) (changed_is xs) below

-- ---- an entry that is put

module _ (e : Entry) where
  abbrev spot : List Entry → ℕ
  spot xs = position_or_len (λ f. nat_le e.number f.number) xs

  abbrev put_at : List Entry → ℕ → List Entry
  put_at xs at = cond (is_number_at e.number xs at) (set xs at e) (insert xs at e)

  later_by : (x : Entry) (xs : List Entry) (t : Bool) → cond t (x ∷ set xs (spot xs) e) (x ∷ insert xs (spot xs) e) ≡ x ∷ cond t (set xs (spot xs) e) (insert xs (spot xs) e)
  later_by x xs true = refl
  later_by x xs false = refl

  put_by : (x : Entry) (xs rest : List Entry) (b : Bool) → put_at xs (spot xs) ≡ rest
      → put_at (x ∷ xs) (cond (not b) (1 + spot xs) 0) ≡ cond b (cond (nat_eq x.number e.number) (e ∷ xs) (e ∷ x ∷ xs)) (x ∷ rest)
  put_by x xs rest true same = refl
  put_by x xs rest false same =
      let more : 1 + spot xs ≡ suc (spot xs) = omega arith in
      subst (λ k. put_at (x ∷ xs) k ≡ x ∷ rest) (sym more) (later_by x xs (is_number_at e.number xs (spot xs)) ∙ ap (λ ys. x ∷ ys) same)

  pub put_is : (xs : List Entry) → put_at xs (spot xs) ≡ put_entry e xs
  unfolding put_entry
  put_is [] = refl
  put_is (x ∷ xs) = put_by x xs (put_entry e xs) (nat_le e.number x.number) (put_is xs)

  pub put_there : (xs : List Entry) (at : ℕ) → at ≡ spot xs → is_number_at e.number xs at ≡ true → set xs at e ≡ put_entry e xs
  put_there xs at is there = sym (ap (λ b. cond b (set xs at e) (insert xs at e)) there) ∙ ap (λ k. put_at xs k) is ∙ put_is xs

  pub put_before : (xs : List Entry) (at : ℕ) → at ≡ spot xs → is_number_at e.number xs at ≡ false → insert xs at e ≡ put_entry e xs
  put_before xs at is there = sym (ap (λ b. cond b (set xs at e) (insert xs at e)) there) ∙ ap (λ k. put_at xs k) is ∙ put_is xs

-- an entry is changed where it was found
pub changed_to : (n : ℕ) (change : Entry → Entry) (base xs : List Entry) (at : ℕ) (old new : Entry) → base ≡ xs → at ≡ place n change old xs → at < length xs
    → old ≡ get_or base at old → new ≡ change old → set base at new ≡ changed_in n change xs
changed_to n change base xs at old new same is below value is_new =
    ap (λ ys. set ys at new) same ∙ ap (λ x. set xs at x) (is_new ∙ ap change (value ∙ ap (λ ys. get_or ys at old) same))
    ∙ ap (λ k. set xs k (change (get_or xs k old))) is ∙ changed_is n change old xs (subst (λ k. k < length xs) is below)
