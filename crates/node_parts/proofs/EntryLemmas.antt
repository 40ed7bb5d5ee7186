-- Entries that are put at their places.
use Rattle.std.proofs.Common.{◌≡◌, ℕ, suc, ◌+◌, ◌<◌, ◌≤◌, true, false, cond, Bool, List, [], ◌∷◌, set, Option, Some, None, Result, Ok, Err, OnOk, refl, sym, ap, subst, ◌∙◌, arith}
use Rattle.std.specs.Prelude.{not, nat_eq, nat_le, nat_lt, find, length, position, insert, slice_get, get_or, IsSome, is_some}
use Rattle.std.specs.List.{position_or_len}
use Rattle.std.proofs.lemmas.Bool.{ltb-true, ltb-false, lt-ltb}
use Rattle.std.proofs.lemmas.List.Folds.{find_at}
use Rattle.std.proofs.lemmas.Option.{slice_get_within}
use Rattle.node_cache.specs.declared.entry.Entry.{Entry}
use Rattle.plan_rules.specs.Fetched.{changed_in, put_entry}
use Rattle.plan_parts.specs.Entries.{is_number_at}

-- what holds of a call that succeeded gives something else
pub on_ok : {X E P Q : Type 0} → (r : Result X E) → OnOk r P → (P → Q) → OnOk r Q
on_ok (Ok x) is go = go is
on_ok (Err e) is go = tt

module _ {X : Type 0} (p : X → Bool) where
  most_by : (xs : List X) (b : Bool) → position_or_len p xs ≤ length xs → cond (not b) (1 + position_or_len p xs) 0 ≤ suc (length xs)
  most_by xs true most = omega arith
  most_by xs false most = omega (arith, most)

  pub at_most : (xs : List X) → position_or_len p xs ≤ length xs
  at_most [] = omega arith
  at_most (x ∷ xs) = most_by xs (p x) (at_most xs)

  some_by : (xs : List X) (i : ℕ) (b : Bool) → nat_lt (position_or_len p xs) (length xs) ≡ b → cond b (Some (position_or_len p xs)) None ≡ Some i
      → (i ≡ position_or_len p xs) × (i < length xs)
  some_by xs i true below is =
      let same : position_or_len p xs ≡ i = cc in (sym same, subst (λ k. k < length xs) same (ltb-true (position_or_len p xs) (length xs) below))
  some_by xs i false below is = absurd cc

  pub some_at : (xs : List X) (i : ℕ) → position p xs ≡ Some i → (i ≡ position_or_len p xs) × (i < length xs)
  some_at xs i is = some_by xs i (nat_lt (position_or_len p xs) (length xs)) refl is

  none_by : (xs : List X) (b : Bool) → nat_lt (position_or_len p xs) (length xs) ≡ b → cond b (Some (position_or_len p xs)) None ≡ None
      → length xs ≡ position_or_len p xs
  none_by xs true below is = absurd cc
  none_by xs false below is = let past = ltb-false (position_or_len p xs) (length xs) below in let most = at_most xs in omega (arith, past, most)

  pub none_at : (xs : List X) → position p xs ≡ None → length xs ≡ position_or_len p xs
  none_at xs is = none_by xs (nat_lt (position_or_len p xs) (length xs)) refl is

-- ---- an entry that is put

module _ (e : Entry) where
  abbrev spot : List Entry → ℕ
  spot xs = position_or_len (λ f. nat_le e.number f.number) xs

  abbrev put_at : List Entry → ℕ → List Entry
  put_at xs at = cond (is_number_at e.number xs at) (set xs at e) (insert xs at e)

  later_by : (x : Entry) (xs : List Entry) (t : Bool) → cond t (x ∷ set xs (spot xs) e) (x ∷ insert xs (spot xs) e) ≡ x ∷ cond t (set xs (spot xs) e) (insert xs (spot xs) e)
  later_by x xs true = refl
  later_by x xs false = refl

  put_by : (x : Entry) (xs rest : List Entry) (b : Bool) → put_at xs (spot xs) ≡ rest
      → put_at (x ∷ xs) (cond (not b) (1 + spot xs) 0) ≡ cond b (cond (nat_eq x.number e.number) (e ∷ xs) (e ∷ x ∷ xs)) (x ∷ rest)
  put_by x xs rest true same = refl
  put_by x xs rest false same =
      let more : 1 + spot xs ≡ suc (spot xs) = omega arith in
      subst (λ k. put_at (x ∷ xs) k ≡ x ∷ rest) (sym more) (later_by x xs (is_number_at e.number xs (spot xs)) ∙ ap (λ ys. x ∷ ys) same)

  pub put_is : (xs : List Entry) → put_at xs (spot xs) ≡ put_entry e xs
  unfolding put_entry
  put_is [] = refl
  put_is (x ∷ xs) = put_by x xs (put_entry e xs) (nat_le e.number x.number) (put_is xs)

  pub put_there : (xs : List Entry) (at : ℕ) → at ≡ spot xs → is_number_at e.number xs at ≡ true → set xs at e ≡ put_entry e xs
  put_there xs at is there = sym (ap (λ b. cond b (set xs at e) (insert xs at e)) there) ∙ ap (λ k. put_at xs k) is ∙ put_is xs

  pub put_before : (xs : List Entry) (at : ℕ) → at ≡ spot xs → is_number_at e.number xs at ≡ false → insert xs at e ≡ put_entry e xs
  put_before xs at is there = sym (ap (λ b. cond b (set xs at e) (insert xs at e)) there) ∙ ap (λ k. put_at xs k) is ∙ put_is xs
