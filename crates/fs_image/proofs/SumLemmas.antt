-- Sums over numbers, over blocks, and over the entries of a map.
use Rattle.std.proofs.Common.{◌≡◌, ◌≢◌, ℕ, zero, suc, ◌+◌, ◌*◌, ◌<◌, true, false, Bool, cond, List, [], ◌∷◌, Option, Some, None, inl, inr, refl, sym, ap, ◌∙◌, arith}
use Rattle.std.specs.Prelude.{◌-◌, sum_by, slice_get, is_some, length}
use Rattle.std.specs.Ordering.{nat_cmp}
use Rattle.std.specs.Option.{option_map_or}
use Rattle.std.specs.Cmp.{nat_cmp_total}
use Rattle.std.specs.FinMap as table
use Rattle.std.specs.FinMap.{FinMap, len, keys, entries, get, remove, empty_of_len, len-entries, len-remove, len-empty, get-empty}
use Rattle.std.proofs.Math.Nat.{suc-mul}
use Rattle.std.proofs.lemmas.Bool.{true≢false, cases_eq}
use Rattle.sfs_base.proofs.MapLemmas.{counted_at, sum_remove, same_look_ups, greatest_has, greatest_none}
use Rattle.fs_image.specs.Counts.{sum_below}

-- 1 where it holds
abbrev pub flag : Bool → ℕ
flag true = 1
flag false = 0

pub sum_alike : (n : ℕ) (f g : ℕ → ℕ) → ((i : ℕ) → i < n → f i ≡ g i) → sum_below n f ≡ sum_below n g
sum_alike zero f g same = refl
sum_alike (suc n) f g same = omega (arith, sum_alike n f g (λ i below. same i (omega (arith, below))), same n (omega arith))

pub sum_both : (n : ℕ) (f g : ℕ → ℕ) → sum_below n (λ i. f i + g i) ≡ sum_below n f + sum_below n g
sum_both zero f g = refl
sum_both (suc n) f g = omega (arith, sum_both n f g)

pub sum_none : (n : ℕ) (f : ℕ → ℕ) → ((i : ℕ) → i < n → f i ≡ 0) → sum_below n f ≡ 0
sum_none zero f none = refl
sum_none (suc n) f none = omega (arith, sum_none n f (λ i below. none i (omega (arith, below))), none n (omega arith))

-- a sum with one number that is not 0
pub sum_one : (n j : ℕ) (f : ℕ → ℕ) → j < n → ((i : ℕ) → i < n → i ≢ j → f i ≡ 0) → sum_below n f ≡ f j
sum_one zero j f below others = absurd (omega (arith, below))
sum_one (suc n) j f below others = elim (cases_eq j n) [
  | inl last ↦
      let none = sum_none n f (λ i under. others i (omega (arith, under)) (λ same. omega (arith, same, last, under))) in
      omega (arith, none) ∙ sym (ap f last)
  | inr earlier ↦
      let rest = sum_one n j f (omega (arith, below, earlier)) (λ i under. others i (omega (arith, under))) in
      omega (arith, rest, others n (omega arith) (λ same. earlier (sym same)))
]

pub sum_same : (n c : ℕ) → sum_below n (λ i. c) ≡ n * c
sum_same zero c = omega arith
sum_same (suc n) c = omega (arith, sum_same n c, suc-mul n c)

-- ---- what is summed over a map is known by what each of its entries adds

module _ {X : Type 0} (f : ℕ × X → ℕ) (count : FinMap nat_cmp X → ℕ) (P : FinMap nat_cmp X → Type 0)
    (none : count table.empty ≡ 0) (left : (m : FinMap nat_cmp X) (k : ℕ) → P m → P (remove m k))
    (each : (m : FinMap nat_cmp X) (k : ℕ) (v : X) → P m → get m k ≡ Some v → count m ≡ count (remove m k) + f (k, v))
  where
    some_of : (o : Option X) → is_some o ≡ true → (v : X) × (o ≡ Some v)
    some_of None is = absurd (true≢false (sym is))
    some_of (Some v) is = (v, refl)

    -- a map with an entry is its greatest one and the others
    step : (n : ℕ) (m : FinMap nat_cmp X) → len m ≡ suc n → P m → ((k : FinMap nat_cmp X) → len k ≡ n → P k → count k ≡ sum_by f (entries k))
        → (o : Option ℕ) → slice_get (keys m) (len m - 1) ≡ o → count m ≡ sum_by f (entries m)
    step n m sized holds fewer None is =
        let empty : m ≡ table.empty = same_look_ups m table.empty (λ q. greatest_none m is q ∙ sym (get-empty nat_cmp q)) in
        absurd (omega (arith, sized, ap len empty, len-empty nat_cmp X))
    step n m sized holds fewer (Some k) is =
        let there = some_of (get m k) (greatest_has m k is).0 in
        let shorter : len (remove m k) ≡ n =
        len-remove nat_cmp_total m k ∙ ap (λ b. cond b (len m - 1) (len m)) (greatest_has m k is).0 ∙ omega (arith, sized) in
        let counts : counted_at f m k ≡ f (k, there.0) = ap (λ (o : Option X). option_map_or (λ v. f (k, v)) o 0) there.1 in
        omega (arith, each m k there.0 holds there.1, fewer (remove m k) shorter (left m k holds), sum_remove f m k, counts)

    by_len : (n : ℕ) (m : FinMap nat_cmp X) → len m ≡ n → P m → count m ≡ sum_by f (entries m)
    by_len zero m sized holds =
        let is : m ≡ table.empty = empty_of_len m sized in
        ap count is ∙ none ∙ sym (ap (sum_by f) (no_entries (entries m) (sym (len-entries m) ∙ sized)))
      where
        no_entries : (es : List (ℕ × X)) → length es ≡ 0 → es ≡ []
        no_entries [] sized = refl
        no_entries (e ∷ es) sized = absurd (omega (arith, sized))
    by_len (suc n) m sized holds = step n m sized holds (by_len n) (slice_get (keys m) (len m - 1)) refl

    pub entries_sum : (m : FinMap nat_cmp X) → P m → count m ≡ sum_by f (entries m)
    entries_sum m holds = by_len (len m) m refl holds
