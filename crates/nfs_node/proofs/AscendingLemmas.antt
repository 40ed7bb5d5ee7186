-- Numbers that ascend, one by one.
use Rattle.std.proofs.Common.{◌≡◌, ℕ, zero, suc, ◌+◌, ◌<◌, true, false, cond, Bool, List, [], ◌∷◌, length, refl, subst, arith}
use Rattle.std.specs.Prelude.{nat_eq, nat_le, map, slice_index}
use Rattle.std.specs.List.Sorted.{IsStrictlyIncreasing}
use Rattle.std.proofs.lemmas.Bool.{eqb-true, eqb-false, leb-true, leb-false}
use Rattle.node_cache.specs.declared.entry.Entry.{Entry}
use Rattle.plan_rules.specs.Fetched.{put_entry}

-- a number is below the first of these; and each is below the next
abbrev pub IsBefore : ℕ → List ℕ → Type 0
IsBefore x [] = Unit {0}
IsBefore x (y ∷ ys) = x < y

abbrev pub Ascend : List ℕ → Type 0
Ascend [] = Unit {0}
Ascend (x ∷ xs) = IsBefore x xs × Ascend xs

tail_up : (x : ℕ) (xs : List ℕ) → IsStrictlyIncreasing (x ∷ xs) → IsStrictlyIncreasing xs
tail_up x xs up k less =
    let here : suc k + 1 ≡ suc (k + 1) = omega arith in
    subst (λ j. slice_index (x ∷ xs) (suc k) < slice_index (x ∷ xs) j) here (up (suc k) (omega (arith, less)))

first_up : (x : ℕ) (xs : List ℕ) → IsStrictlyIncreasing (x ∷ xs) → IsBefore x xs
first_up x [] up = tt
first_up x (y ∷ ys) up = up 0 (omega arith)

pub ascends : (xs : List ℕ) → IsStrictlyIncreasing xs → Ascend xs
ascends [] up = tt
ascends (x ∷ xs) up = (first_up x xs up, ascends xs (tail_up x xs up))

up_by : (x : ℕ) (xs : List ℕ) → IsBefore x xs → IsStrictlyIncreasing xs → (k : ℕ) → k + 1 < suc (length xs) → slice_index (x ∷ xs) k < slice_index (x ∷ xs) (k + 1)
up_by x [] first up k less = absurd (omega (arith, less))
up_by x (y ∷ ys) first up zero less = first
up_by x (y ∷ ys) first up (suc k) less =
    let here : suc (k + 1) ≡ suc k + 1 = omega arith in
    subst (λ j. slice_index (y ∷ ys) k < slice_index (x ∷ y ∷ ys) j) here (up k (omega (arith, less)))

pub is_up : (xs : List ℕ) → Ascend xs → IsStrictlyIncreasing xs
is_up [] all k less = absurd (omega (arith, less))
is_up (x ∷ xs) all k less = up_by x xs all.0 (is_up xs all.1) k less

-- ---- entries

abbrev pub numbers : List Entry → List ℕ
numbers es = map (λ e. e.number) es

module _ (e : Entry) where
  before_by : (x : ℕ) (f : Entry) (fs : List Entry) (b t : Bool) → nat_eq f.number e.number ≡ t → x < e.number → x < f.number
      → IsBefore x (numbers (cond b (cond t (e ∷ fs) (e ∷ f ∷ fs)) (f ∷ put_entry e fs)))
  before_by x f fs true true is here first = here
  before_by x f fs true false is here first = here
  before_by x f fs false t is here first = first

  still_before : (x : ℕ) (fs : List Entry) → x < e.number → IsBefore x (numbers fs) → IsBefore x (numbers (put_entry e fs))
  unfolding put_entry
  still_before x [] here first = here
  still_before x (f ∷ fs) here first = before_by x f fs (nat_le e.number f.number) (nat_eq f.number e.number) refl here first

  same_before : (fs : List Entry) (n k : ℕ) → n ≡ k → IsBefore n (numbers fs) → IsBefore k (numbers fs)
  same_before fs n k same is = subst (λ j. IsBefore j (numbers fs)) same is

  put_by : (f : Entry) (fs : List Entry) (b t : Bool) → nat_le e.number f.number ≡ b → nat_eq f.number e.number ≡ t → IsBefore f.number (numbers fs) → Ascend (numbers fs)
      → Ascend (numbers (put_entry e fs)) → Ascend (numbers (cond b (cond t (e ∷ fs) (e ∷ f ∷ fs)) (f ∷ put_entry e fs)))
  put_by f fs true true below is first rest more = (same_before fs f.number e.number (eqb-true f.number e.number is) first, rest)
  put_by f fs true false below is first rest more =
      let most = leb-true e.number f.number below in let other = eqb-false f.number e.number is in (omega (arith, most, other), (first, rest))
  put_by f fs false t below is first rest more = let past = leb-false e.number f.number below in (still_before f.number fs (omega (arith, past)) first, more)

  pub put_ascends : (fs : List Entry) → Ascend (numbers fs) → Ascend (numbers (put_entry e fs))
  unfolding put_entry
  put_ascends [] all = (tt, tt)
  put_ascends (f ∷ fs) all = put_by f fs (nat_le e.number f.number) (nat_eq f.number e.number) refl refl all.0 all.1 (put_ascends fs all.1)
