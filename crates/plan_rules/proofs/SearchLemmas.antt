-- What is found stands somewhere in the list.
use Rattle.std.proofs.Common.{◌≡◌, ℕ, suc, true, false, cond, Bool, List, [], ◌∷◌, Some, refl, subst}
use Rattle.std.specs.Prelude.{find, slice_get}

module _ {X : Type 0} (p : X → Bool) where
  abbrev IsThere : List X → X → Type 0
  IsThere xs x = (i : ℕ) × (slice_get xs i ≡ Some x) × (p x ≡ true)

  there_by : (y x : X) (xs : List X) (b : Bool) → p y ≡ b → (find p xs ≡ Some x → IsThere xs x) → cond b (Some y) (find p xs) ≡ Some x → IsThere (y ∷ xs) x
  there_by y x xs true test rest is = let same : y ≡ x = cc in (0, is, subst (λ (z : X). p z ≡ true) same test)
  there_by y x xs false test rest is = let there = rest is in (suc there.0, there.1, there.2)

  pub found_there : (x : X) (xs : List X) → find p xs ≡ Some x → IsThere xs x
  found_there x [] is = absurd cc
  found_there x (y ∷ xs) is = there_by y x xs (p y) refl (found_there x xs) is
