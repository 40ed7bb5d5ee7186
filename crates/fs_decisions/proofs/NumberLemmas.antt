-- Searches for free numbers.
use Rattle.std.proofs.Common.{◌≡◌, ℕ, zero, suc, ◌+◌, ◌<◌, ◌≤◌, Bool, true, false, cond, List, [], ◌∷◌, ◌++◌, Some, None, ◌-◌, refl, sym, ap, subst, ◌∙◌, map, add-one, add-zero, add-suc, arith}
use Rattle.std.proofs.lemmas.Grind.{flat_map-append}
use Rattle.std.proofs.lemmas.List.{append-nil}
use Rattle.std.specs.Prelude.{find, flat_map}
use Rattle.fs_rules.specs.Lists.{below}

module _ {X : Type 0} (p : X → Bool) where
  -- a search in two lists in a row, where the first has none
  pub find_behind : (xs ys : List X) → find p xs ≡ None → find p (xs ++ ys) ≡ find p ys
  find_behind [] ys none = refl
  find_behind (x ∷ xs) ys none =
      elim (p x) as (λ b. cond b (Some x) (find p xs) ≡ None → cond b (Some x) (find p (xs ++ ys)) ≡ find p ys) [
        | true ↦ λ is. absurd cc
        | false ↦ λ is. find_behind xs ys is
      ] none

  -- and where the first has one
  pub find_before : (xs ys : List X) (x : X) → find p xs ≡ Some x → find p (xs ++ ys) ≡ Some x
  find_before [] ys x some = absurd cc
  find_before (y ∷ xs) ys x some =
      elim (p y) as (λ b. cond b (Some y) (find p xs) ≡ Some x → cond b (Some y) (find p (xs ++ ys)) ≡ Some x) [
        | true ↦ λ is. is
        | false ↦ λ is. find_before xs ys x is
      ] some

-- ---- a search in lists that grow one part at a time

module _ {X : Type 0} (p : X → Bool) (all part : ℕ → List X) (step : (n : ℕ) → all (suc n) ≡ all n ++ part n) where
  -- none so far, and none in the next part
  pub none_more : (i : ℕ) → find p (all i) ≡ None → find p (part i) ≡ None → find p (all (i + 1)) ≡ None
  none_more i none here =
      subst (λ (k : ℕ). find p (all k) ≡ None) (sym (add-one i)) (ap (find p) (step i) ∙ find_behind p (all i) (part i) none ∙ here)

  found_far : (k i : ℕ) (x : X) → find p (all i) ≡ None → find p (part i) ≡ Some x → find p (all (suc i + k)) ≡ Some x
  found_far zero i x none here =
      subst (λ (k : ℕ). find p (all k) ≡ Some x) (sym (add-zero (suc i))) (ap (find p) (step i) ∙ find_behind p (all i) (part i) none ∙ here)
  found_far (suc k) i x none here =
      subst (λ (n : ℕ). find p (all n) ≡ Some x) (sym (add-suc (suc i) k))
      (ap (find p) (step (suc i + k)) ∙ find_before p (all (suc i + k)) (part (suc i + k)) x (found_far k i x none here))

  -- the first is found where the parts before have none
  pub found : (i n : ℕ) (x : X) → i < n → find p (all i) ≡ None → find p (part i) ≡ Some x → find p (all n) ≡ Some x
  found i n x within none here =
      let same : suc i + (n - suc i) ≡ n = omega arith in
      subst (λ (k : ℕ). find p (all k) ≡ Some x) same (found_far (n - suc i) i x none here)

  -- what is found is found in more
  more_still : (d i : ℕ) (x : X) → find p (all i) ≡ Some x → find p (all (i + d)) ≡ Some x
  more_still zero i x some = subst (λ (k : ℕ). find p (all k) ≡ Some x) (let same : i ≡ i + zero = omega arith in same) some
  more_still (suc d) i x some =
      subst (λ (k : ℕ). find p (all k) ≡ Some x) (let same : suc (i + d) ≡ i + suc d = omega arith in same)
      (ap (find p) (step (i + d)) ∙ find_before p (all (i + d)) (part (i + d)) x (more_still d i x some))

  pub longer : (i n : ℕ) (x : X) → i ≤ n → find p (all i) ≡ Some x → find p (all n) ≡ Some x
  longer i n x le some = subst (λ (k : ℕ). find p (all k) ≡ Some x) (let same : i + (n - i) ≡ n = omega arith in same) (more_still (n - i) i x some)

-- ---- numbers

map-append : {X : Type 0} (f : ℕ → X) (xs ys : List ℕ) → map f (xs ++ ys) ≡ map f xs ++ map f ys
map-append f [] ys = refl
map-append f (x ∷ xs) ys = ap (λ l. f x ∷ l) (map-append f xs ys)

-- the numbers of a memory node, one at a time
pub one_number : {X : Type 0} (f : ℕ → X) (n : ℕ) → map f (below (suc n)) ≡ map f (below n) ++ f n ∷ []
unfolding below
one_number f n = map-append f (below n) (n ∷ [])

-- the numbers of memory nodes, one node at a time
pub one_node : {X : Type 0} (g : ℕ → List X) (n : ℕ) → flat_map g (below (suc n)) ≡ flat_map g (below n) ++ g n
unfolding below
one_node g n = flat_map-append g (below n) (n ∷ []) ∙ ap (λ l. flat_map g (below n) ++ l) (append-nil (g n))

-- what one number's test says
pub find_one : {X : Type 0} (p : X → Bool) (x : X) → p x ≡ true → find p (x ∷ []) ≡ Some x
find_one p x is = ap (λ b. cond b (Some x) None) is

pub find_none : {X : Type 0} (p : X → Bool) (x : X) → p x ≡ false → find p (x ∷ []) ≡ None
find_none p x is = ap (λ b. cond b (Some x) None) is

pub find_zero : {X : Type 0} (p : X → Bool) (f : ℕ → X) → find p (map f (below 0)) ≡ None
unfolding below
find_zero p f = refl

pub find_no_node : {X : Type 0} (p : X → Bool) (g : ℕ → List X) → find p (flat_map g (below 0)) ≡ None
unfolding below
find_no_node p g = refl
