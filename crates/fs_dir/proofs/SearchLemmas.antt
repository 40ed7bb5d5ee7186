-- A search for the first element with a property.
use Rattle.std.proofs.Common.{◌≡◌, ℕ, ◌<◌, ◌≤◌, Bool, true, false, not, cond, ltb, List, length, Option, Some, None, position, refl, sym, ap, ◌∙◌, arith}
use Rattle.std.specs.Prelude.{slice_get, IfSome, IfNone}
use Rattle.std.specs.List.{position_or_len}
use Rattle.std.proofs.lemmas.Bool.{ltb-false, not-true}
use Rattle.std.proofs.lemmas.List.Sums.{prefix_len_passes}
use Rattle.std.proofs.lemmas.List.Quantifiers.{position-Some}
use Rattle.std.proofs.lemmas.Option.{slice_get_within, get_or_from_slice_get}

module _ {X : Type 0} (p : X → Bool) where
  -- before the first one there is none
  pub none_before : (xs : List X) (i k : ℕ) (x : X) → position p xs ≡ Some i → k < i → slice_get xs k ≡ Some x → p x ≡ false
  none_before xs i k x found below here = ap p (sym (get_or_from_slice_get xs k x x here)) ∙ (position-Some p xs i x found).2 k below

  is_none : (b : Bool) (i : ℕ) → ◌≡◌ {A = Option ℕ} (cond b (Some i) None) None → b ≡ false
  is_none true i e = absurd cc
  is_none false i e = refl

  -- where there is no first one there is none
  pub none_at_all : (xs : List X) (k : ℕ) (x : X) → position p xs ≡ None → slice_get xs k ≡ Some x → p x ≡ false
  none_at_all xs k x none here =
      let all : length xs ≤ position_or_len p xs = ltb-false _ _ (is_none (ltb (position_or_len p xs) (length xs)) (position_or_len p xs) none) in
      let inside : k < length xs = slice_get_within xs k x here in
      ap p (sym (get_or_from_slice_get xs k x x here)) ∙ not-true _ (prefix_len_passes (λ y. not (p y)) xs k x (omega arith))

-- an index in a narrower type is the index
pub narrow_found : (o q : Option ℕ) (i : ℕ) → q ≡ Some i → IfSome o (λ n. n ≡ i) → IfSome o (λ n. q ≡ Some n)
narrow_found None q i is found = tt
narrow_found (Some n) q i is found = is ∙ ap Some (sym found)

pub narrow_none : (o : Option ℕ) (P Q : Type 0) → (P → Q) → IfNone o P → IfNone o Q
narrow_none None P Q so none = so none
narrow_none (Some n) P Q so none = tt
