-- A list whose elements are changed one after another.
use Rattle.std.proofs.Common.{◌≡◌, ℕ, zero, suc, ◌+◌, List, [], ◌∷◌, ◌++◌, map, take, drop, Some, sym, ap, subst, ◌∙◌, arith}
use Rattle.std.specs.Prelude.{◌<◌, length, slice_get, slice_index_or, slice_set}

-- the first i are changed
abbrev pub partly : {X : Type 0} → (X → X) → ℕ → List X → List X
partly f i xs = map f (take i xs) ++ drop i xs

next_changed : {X : Type 0} (f : X → X) (xs : List X) (i : ℕ) (x : X) → slice_get (partly f i xs) i ≡ Some x → slice_set (partly f i xs) i (f x) ≡ partly f (suc i) xs
next_changed f [] zero x there = absurd cc
next_changed f [] (suc i) x there = absurd cc
next_changed f (y ∷ xs) zero x there = ap (λ z. f z ∷ xs) (let same : x ≡ y = cc in same)
next_changed f (y ∷ xs) (suc i) x there = ap (λ zs. f y ∷ zs) (next_changed f xs i x there)

got : {X : Type 0} (xs : List X) (i : ℕ) (x : X) → i < length xs → x ≡ slice_index_or xs i x → slice_get xs i ≡ Some x
got [] i x below same = absurd (omega (arith, below))
got (y ∷ xs) zero x below same = ap Some (sym same)
got (y ∷ xs) (suc i) x below same = got xs i x (omega (arith, below)) same

pub changed : {X : Type 0} (f : X → X) (xs now : List X) (i : ℕ) (x : X) → now ≡ partly f i xs → i < length now → x ≡ slice_index_or now i x → slice_set now i (f x) ≡ partly f (i + 1) xs
changed f xs now i x is below same =
    let there = got now i x below same in
    let next : suc i ≡ i + 1 = omega arith in
    ap (λ zs. slice_set zs i (f x)) is ∙ next_changed f xs i x (subst (λ zs. slice_get zs i ≡ Some x) is there) ∙ ap (λ k. partly f k xs) next

-- the one at the index is as it was
got_left : {X : Type 0} (f : X → X) (xs : List X) (i : ℕ) (x : X) → slice_get (partly f i xs) i ≡ Some x → slice_get xs i ≡ Some x
got_left f [] zero x there = there
got_left f [] (suc i) x there = absurd cc
got_left f (y ∷ xs) zero x there = there
got_left f (y ∷ xs) (suc i) x there = got_left f xs i x there

split : {X : Type 0} (xs : List X) (i : ℕ) (x : X) → slice_get xs i ≡ Some x → drop i xs ≡ x ∷ drop (suc i) xs
split [] zero x there = absurd cc
split [] (suc i) x there = absurd cc
split (y ∷ xs) zero x there = ap (λ z. z ∷ xs) (let same : y ≡ x = cc in same)
split (y ∷ xs) (suc i) x there = split xs i x there

-- so it is the first of those that are left
pub next_is : {X : Type 0} (f : X → X) (xs now : List X) (i : ℕ) (x : X) → now ≡ partly f i xs → i < length now → x ≡ slice_index_or now i x → drop i xs ≡ x ∷ drop (i + 1) xs
next_is f xs now i x is below same =
    let there = got now i x below same in
    let next : suc i ≡ i + 1 = omega arith in
    split xs i x (got_left f xs i x (subst (λ zs. slice_get zs i ≡ Some x) is there)) ∙ ap (λ k. x ∷ drop k xs) next
