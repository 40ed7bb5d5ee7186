-- Sums over finite maps, and counts over lists, that are not zero.
use Rattle.std.proofs.Common.{◌≡◌, ℕ, zero, suc, ◌<◌, ◌≤◌, Bool, true, false, cond, T, ◌&&◌, List, [], ◌∷◌, Some, inl, inr, refl, ap, ◌∙◌, arith}
use Rattle.std.specs.Prelude.{slice_get, sum_by, count_by}
use Rattle.std.specs.Ordering.{nat_cmp, eq_by_cmp, is_lt}
use Rattle.std.specs.FinMap.Entries.{below_all}
use Rattle.std.specs.FinMap.{FinMap, find, is_sorted, get, get-entries, entries, entries_sorted}
use Rattle.std.proofs.lemmas.Bool.{cases_lt}
use Rattle.std.proofs.lemmas.Bool.Decides.{nat_tests}
use Rattle.std.proofs.lemmas.List.Sums.{sum_by-cons}

-- ---- counts over lists

-- what a list has that passes a test
pub record Passes {X : Type 0} (p : X → Bool) (xs : List X) : Type 0 where
  pub place : ℕ
  pub value : X
  pub there : slice_get xs place ≡ Some value
  pub passes : p value ≡ true

-- what a test that answers so counts
abbrev pub one_where : Bool → ℕ
one_where b = cond b 1 0

pub count_found : {X : Type 0} (p : X → Bool) (xs : List X) → 1 ≤ count_by p xs → Passes p xs
count_found p [] h = absurd (omega arith)
count_found p (x ∷ xs) h = go (p x) refl (count_found p xs) where
  go : (b : Bool) → p x ≡ b → (1 ≤ count_by p xs → Passes p xs) → Passes p (x ∷ xs)
  go true is later = record { place = 0; value = x; there = refl; passes = is }
  go false is later =
      let none : one_where (p x) ≡ 0 = ap one_where is in
      let rest = later (omega (arith, none, sum_by-cons (λ y. one_where (p y)) x xs)) in
      record { place = suc rest.place; value = rest.value; there = rest.there; passes = rest.passes }

pub count_has : {X : Type 0} (p : X → Bool) (xs : List X) (i : ℕ) (x : X) → slice_get xs i ≡ Some x → p x ≡ true → 1 ≤ count_by p xs
count_has p [] i x there is = absurd cc
count_has p (y ∷ xs) zero x there is =
    let one : one_where (p y) ≡ 1 = ap one_where (ap p (let same : y ≡ x = cc in same) ∙ is) in
    omega (arith, one, sum_by-cons (λ z. one_where (p z)) y xs)
count_has p (y ∷ xs) (suc i) x there is = omega (arith, count_has p xs i x there is, sum_by-cons (λ z. one_where (p z)) y xs)

-- two tests that agree on what a list has count alike
pub count_alike : {X : Type 0} (p q : X → Bool) (xs : List X) → ((i : ℕ) (x : X) → slice_get xs i ≡ Some x → p x ≡ q x) → count_by p xs ≡ count_by q xs
count_alike p q [] same = refl
count_alike p q (x ∷ xs) same =
    let here : one_where (p x) ≡ one_where (q x) = ap one_where (same 0 x refl) in
    omega (arith, here, count_alike p q xs (λ i y there. same (suc i) y there), sum_by-cons (λ z. one_where (p z)) x xs, sum_by-cons (λ z. one_where (q z)) x xs)

-- ---- sums over maps

first : (a b : Bool) → T (a && b) → T a
first true b p = tt
first false b p = p

second : (a b : Bool) → T (a && b) → T b
second true b p = p
second false b p = absurd p

-- an entry of a map that counts
pub record Counts {X : Type 0} (f : ℕ × X → ℕ) (m : FinMap nat_cmp X) : Type 0 where
  pub number : ℕ
  pub value : X
  pub there : get m number ≡ Some value
  pub counts : 1 ≤ f (number, value)

module _ {X : Type 0} (f : ℕ × X → ℕ) where
  record Found (es : List (ℕ × X)) : Type 0 where
    number : ℕ
    value : X
    there : find nat_cmp number es ≡ Some value
    counts : 1 ≤ f (number, value)

  -- what is found among entries stands above what is below all of them
  found_above : (q x : ℕ) (v : X) (es : List (ℕ × X)) → T (below_all nat_cmp x es) → find nat_cmp q es ≡ Some v → x < q
  found_above q x v [] h is = absurd cc
  found_above q x v (e ∷ es) h is = go (eq_by_cmp nat_cmp q e.0) refl is (found_above q x v es (second (is_lt (nat_cmp x e.0)) (below_all nat_cmp x es) h)) where
    below' : T (is_lt (nat_cmp x e.0)) → x < e.0
    below' k = grind (arith, nat_tests)

    go : (b : Bool) → eq_by_cmp nat_cmp q e.0 ≡ b → cond b (Some e.1) (find nat_cmp q es) ≡ Some v → (find nat_cmp q es ≡ Some v → x < q) → x < q
    go true same k later = let q_is : q ≡ e.0 = grind (arith, nat_tests) in omega (arith, below' (first (is_lt (nat_cmp x e.0)) (below_all nat_cmp x es) h))
    go false same k later = later k

  found_sum : (es : List (ℕ × X)) → T (is_sorted nat_cmp es) → 1 ≤ sum_by f es → Found es
  found_sum [] sorted h = absurd (omega arith)
  found_sum (e ∷ es) sorted h = elim (cases_lt 0 (f e)) [
    | inl pos ↦ record {
      number = e.0;
      value = e.1;
      there = ap (λ b. cond b (Some e.1) (find nat_cmp e.0 es)) (let same : eq_by_cmp nat_cmp e.0 e.0 ≡ true = grind (arith, nat_tests) in same);
      counts = omega (arith, pos);
    }
    | inr none ↦
        let rest = found_sum es (second (below_all nat_cmp e.0 es) (is_sorted nat_cmp es) sorted) (omega (arith, none, sum_by-cons f e es)) in
        let above : e.0 < rest.number = found_above rest.number e.0 rest.value es (first (below_all nat_cmp e.0 es) (is_sorted nat_cmp es) sorted) rest.there in
        record {
          number = rest.number;
          value = rest.value;
          there = ap (λ b. cond b (Some e.1) (find nat_cmp rest.number es)) (let apart : eq_by_cmp nat_cmp rest.number e.0 ≡ false = grind (arith, nat_tests) in apart) ∙ rest.there;
          counts = rest.counts;
        }
  ]

  -- where a sum is not zero, an entry counts
  pub sum_found : (m : FinMap nat_cmp X) → 1 ≤ sum_by f (entries m) → Counts f m
  sum_found m h =
      let found = found_sum (entries m) (entries_sorted m) h in
      record { number = found.number; value = found.value; there = get-entries m found.number ∙ found.there; counts = found.counts }
