-- The blocks in which bytes of a file lie, one after another.
use Rattle.std.proofs.Common.{◌≡◌, ℕ, suc, ◌+◌, ◌-◌, ◌/◌, cond, true, false, Bool, List, [], ◌∷◌, ◌++◌, map, refl, sym, ap, ◌∙◌, arith}
use Rattle.std.specs.Prelude.{◌==◌, flat_map}
use Rattle.std.proofs.lemmas.Bool.Decides.{nat_tests}
use Rattle.std.proofs.lemmas.Grind.{flat_map-append}
use Rattle.std.proofs.lemmas.List.{append-nil, map-append}
use Rattle.fs_content.proofs.IndexLemmas.{made_more}
use Rattle.fs_rules.specs.Contents.{touched}
use Rattle.fs_rules.specs.Lists.{below}

touched_by : (offset count : ℕ) (b : Bool) → (count == 0) ≡ b → touched offset count ≡ cond b [] (map (λ k. offset / 4096 + k) (below ((offset + count - 1) / 4096 + 1 - offset / 4096)))
unfolding touched
touched_by offset count b is = ap (λ c. cond c [] (map (λ k. offset / 4096 + k) (below ((offset + count - 1) / 4096 + 1 - offset / 4096)))) is

none_below : (offset : ℕ) → map (λ k. offset / 4096 + k) (below 0) ≡ []
unfolding below
none_below offset = refl

-- none of no bytes
pub touched_none : (offset count r : ℕ) → count ≡ 0 → r ≡ 0 → touched offset count ≡ map (λ k. offset / 4096 + k) (below r)
touched_none offset count r none is =
    touched_by offset count true (let same : (count == 0) ≡ true = grind (arith, nat_tests, none) in same)
    ∙ sym (ap (λ n. map (λ k. offset / 4096 + k) (below n)) is ∙ none_below offset)

pub touched_some : (offset count r : ℕ) → (count ≡ 0 → ⊥) → r ≡ (offset + count - 1) / 4096 + 1 - offset / 4096 → touched offset count ≡ map (λ k. offset / 4096 + k) (below r)
touched_some offset count r some is =
    touched_by offset count false (let other : (count == 0) ≡ false = grind (arith, nat_tests, some) in other)
    ∙ ap (λ n. map (λ k. offset / 4096 + k) (below n)) (sym is)

-- ---- lists that are made block by block

module _ {X : Type 0} (first : ℕ) where
  pub parts_none : (f : ℕ → List X) → flat_map f (map (λ k. first + k) (below 0)) ≡ []
  unfolding below
  parts_none f = refl

  pub parts_more : (f : ℕ → List X) (k : ℕ) → flat_map f (map (λ j. first + j) (below (k + 1))) ≡ flat_map f (map (λ j. first + j) (below k)) ++ f (first + k)
  parts_more f k =
      let sum : k + 1 ≡ suc k = omega arith in
      ap (λ n. flat_map f (map (λ j. first + j) (below n))) sum ∙ ap (flat_map f) (made_more (λ j. first + j) k)
      ∙ flat_map-append f (map (λ j. first + j) (below k)) ((first + k) ∷ [])
      ∙ ap (λ xs. flat_map f (map (λ j. first + j) (below k)) ++ xs) (append-nil (f (first + k)))

  pub each_none : (f : ℕ → X) → map f (map (λ k. first + k) (below 0)) ≡ []
  unfolding below
  each_none f = refl

  pub each_more : (f : ℕ → X) (k : ℕ) → map f (map (λ j. first + j) (below (k + 1))) ≡ map f (map (λ j. first + j) (below k)) ++ f (first + k) ∷ []
  each_more f k =
      let sum : k + 1 ≡ suc k = omega arith in
      ap (λ n. map f (map (λ j. first + j) (below n))) sum ∙ ap (map f) (made_more (λ j. first + j) k)
      ∙ map-append f (map (λ j. first + j) (below k)) ((first + k) ∷ [])
