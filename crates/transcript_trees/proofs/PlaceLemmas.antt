-- The elements of a list that is changed at one place, or has one more.
use Rattle.std.proofs.Common.{inl, inr, ◌≡◌, ℕ, zero, suc, ◌+◌, ◌<◌, ◌≤◌, List, [], ◌∷◌, ◌++◌, length, Option, None, Some, refl, sym, ap, ◌∙◌, arith}
use Rattle.std.specs.Prelude.{slice_get, ◌⊎◌}
use Rattle.transcript_rules.specs.Book.{numbered, with_numbered}

pub own_place : {X : Type 0} → (xs : List X) (k : ℕ) (f : X → X) (x : X) → numbered xs k ≡ Some x → numbered (with_numbered xs k f) k ≡ Some (f x)
unfolding with_numbered
own_place xs zero f x at = absurd (cc at)
own_place [] (suc k) f x at = absurd (cc at)
own_place (y ∷ xs) (suc zero) f x at = let same : y ≡ x = cc at in ap (λ z. Some (f z)) same
own_place (y ∷ xs) (suc (suc k)) f x at = own_place xs (suc k) f x at

pub other_place : {X : Type 0} → (xs : List X) (n k : ℕ) (f : X → X) → (k ≡ n → ⊥) → numbered (with_numbered xs n f) k ≡ numbered xs k
unfolding with_numbered
other_place xs n zero f other = refl
other_place xs zero (suc k) f other = refl
other_place [] (suc n) (suc k) f other = refl
other_place (y ∷ xs) (suc zero) (suc zero) f other = absurd (other refl)
other_place (y ∷ xs) (suc zero) (suc (suc k)) f other = refl
other_place (y ∷ xs) (suc (suc n)) (suc zero) f other = refl
other_place (y ∷ xs) (suc (suc n)) (suc (suc k)) f other = other_place xs (suc n) (suc k) f (λ e. other (ap suc e))

-- what stands somewhere stays there
pub get_more : {X : Type 0} → (xs ys : List X) (i : ℕ) (x : X) → slice_get xs i ≡ Some x → slice_get (xs ++ ys) i ≡ Some x
get_more [] ys i x at = absurd (cc at)
get_more (z ∷ xs) ys zero x at = at
get_more (z ∷ xs) ys (suc i) x at = get_more xs ys i x at

pub place_more : {X : Type 0} → (xs ys : List X) (k : ℕ) (x : X) → numbered xs k ≡ Some x → numbered (xs ++ ys) k ≡ Some x
place_more xs ys zero x at = absurd (cc at)
place_more xs ys (suc k) x at = get_more xs ys k x at

pub get_last : {X : Type 0} → (xs : List X) (x : X) → slice_get (xs ++ x ∷ []) (length xs) ≡ Some x
get_last [] x = refl
get_last (z ∷ xs) x = get_last xs x

pub place_last : {X : Type 0} → (xs : List X) (x : X) → numbered (xs ++ x ∷ []) (length xs + 1) ≡ Some x
place_last xs x = ap (numbered (xs ++ x ∷ [])) (one_more (length xs)) ∙ get_last xs x where
  one_more : (n : ℕ) → n + 1 ≡ suc n
  one_more n = omega arith

pub get_one_more : {X : Type 0} → (xs : List X) (x : X) (i : ℕ) (y : X) → slice_get (xs ++ x ∷ []) i ≡ Some y → (slice_get xs i ≡ Some y) ⊎ ((i ≡ length xs) × (y ≡ x))
get_one_more [] x zero y at = inr (refl, cc at)
get_one_more [] x (suc i) y at = absurd (cc at)
get_one_more (z ∷ xs) x zero y at = inl at
get_one_more (z ∷ xs) x (suc i) y at = again (get_one_more xs x i y at) where
  again : (slice_get xs i ≡ Some y) ⊎ ((i ≡ length xs) × (y ≡ x)) → (slice_get xs i ≡ Some y) ⊎ ((suc i ≡ suc (length xs)) × (y ≡ x))
  again (inl a) = inl a
  again (inr b) = inr (ap suc b.0, b.1)

-- what stands in a list with one more stood there before, or is the last
pub place_one_more : {X : Type 0} → (xs : List X) (x : X) (k : ℕ) (y : X) → numbered (xs ++ x ∷ []) k ≡ Some y → (numbered xs k ≡ Some y) ⊎ ((k ≡ length xs + 1) × (y ≡ x))
place_one_more xs x zero y at = absurd (cc at)
place_one_more xs x (suc k) y at = by (get_one_more xs x k y at) where
  by : (slice_get xs k ≡ Some y) ⊎ ((k ≡ length xs) × (y ≡ x)) → (slice_get xs k ≡ Some y) ⊎ ((suc k ≡ length xs + 1) × (y ≡ x))
  by (inl a) = inl a
  by (inr b) = let same = b.0 in inr (omega (arith, same), b.1)
