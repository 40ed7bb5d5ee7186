-- The number that a new file gets: one of the cluster, which no file has.
use Rattle.std.proofs.Common.{◌≡◌, ℕ, zero, suc, ◌+◌, ◌-◌, ◌^◌, ◌%◌, ◌<◌, ◌≤◌, Bool, true, false, cond, not, ◌&&◌, List, [], ◌∷◌, ◌++◌, map, Option, Some, None, refl, sym, ap, subst, ◌∙◌, arith}
use Rattle.std.specs.Prelude.{nat_lt, find, is_some, is_none, unwrap_or}
use Rattle.std.specs.List.{AllByRecursion, flat_map}
use Rattle.std.specs.FinMap as table
use Rattle.std.proofs.Math.Nat.{mod-lt}
use Rattle.std.proofs.lemmas.Bool.{and_parts, not-true}
use Rattle.fs_rules.specs.declared.geometry.Geometry.{Geometry}
use Rattle.fs_rules.specs.declared.plain_tree.PlainTree.{PlainTree}
use Rattle.fs_rules.specs.Geometry.{IsWithinLimits}
use Rattle.fs_rules.specs.Lists.{below}
use Rattle.fs_rules.specs.Numbers.{number_of, IsNumber, is_free, kept_at, numbers_of, numbers_from, first_free}
use Rattle.fs_rules.specs.Making.{new_number}

-- ---- what holds of all

all_append : {X : Type 0} (P : X → Type 0) (xs ys : List X) → AllByRecursion P xs → AllByRecursion P ys → AllByRecursion P (xs ++ ys)
all_append P [] ys h k = k
all_append P (x ∷ xs) ys h k = (h.0, all_append P xs ys h.1 k)

all_map : {X Y : Type 0} (P : Y → Type 0) (f : X → Y) (xs : List X) → AllByRecursion (λ x. P (f x)) xs → AllByRecursion P (map f xs)
all_map P f [] h = tt
all_map P f (x ∷ xs) h = (h.0, all_map P f xs h.1)

all_flat : {X Y : Type 0} (P : Y → Type 0) (f : X → List Y) → ((x : X) → AllByRecursion P (f x)) → (xs : List X) → AllByRecursion P (flat_map f xs)
all_flat P f each [] = tt
all_flat P f each (x ∷ xs) = all_append P (f x) (flat_map f xs) (each x) (all_flat P f each xs)

all_below : (P : ℕ → Type 0) (n : ℕ) → ((k : ℕ) → k < n → P k) → AllByRecursion P (below n)
unfolding below
all_below P zero h = tt
all_below P (suc n) h = all_append P (below n) (n ∷ []) (all_below P n (λ k lt. h k (omega arith))) (h n (omega arith), tt)

-- what is found passes the test, and is one of all
find_holds : {X : Type 0} (P : X → Type 0) (p : X → Bool) (xs : List X) (x : X) → AllByRecursion P xs → find p xs ≡ Some x → P x × (p x ≡ true)
find_holds P p [] x all h = absurd cc
find_holds P p (y ∷ xs) x all h = go (p y) refl h (find_holds P p xs x all.1) where
  go : (b : Bool) → p y ≡ b → cond b (Some y) (find p xs) ≡ Some x → (find p xs ≡ Some x → P x × (p x ≡ true)) → P x × (p x ≡ true)
  go true is e later = let same : y ≡ x = cc in (subst P same all.0, ap p (sym same) ∙ is)
  go false is e later = later e

-- ---- numbers

numbers_hold : (g : Geometry) (start : ℕ) → 1 ≤ g.memories → AllByRecursion (IsNumber g) (numbers_from g start)
numbers_hold g start some = all_flat (IsNumber g) (λ k. numbers_of g ((start + k) % g.memories)) (λ k.
    all_map (IsNumber g) (number_of ((start + k) % g.memories)) (below g.inodes) (all_below (λ i. IsNumber g (number_of ((start + k) % g.memories) i)) g.inodes (λ i lt. record {
      memory = (start + k) % g.memories;
      inode = i;
      there = (mod-lt (start + k) (omega (arith, some)), lt);
      is = refl;
    }))) (below g.memories)

-- a number that is free: one of the cluster, which no file has
pub record IsFreeNumber (t : PlainTree) (n : ℕ) : Type 0 where
  pub number : IsNumber t.geometry n
  pub dead : table.get t.files n ≡ None
  pub rises : nat_lt (kept_at t n).generation (2 ^ 32 - 1) ≡ true
  pub changes : nat_lt (kept_at t n).change (2 ^ 64 - 1) ≡ true

none_from_test : {X : Type 0} (o : Option X) → is_some o ≡ false → o ≡ None
none_from_test None h = refl
none_from_test (Some x) h = absurd cc

pub first_free_holds : (t : PlainTree) (start n : ℕ) → IsWithinLimits t.geometry → first_free t start ≡ Some n → IsFreeNumber t n
first_free_holds t start n limits h =
    let found = find_holds (IsNumber t.geometry) (is_free t) (numbers_from t.geometry start) n (numbers_hold t.geometry start limits.memories.0) h in
    let parts = and_parts (not (is_some (table.get t.files n))) (nat_lt (kept_at t n).generation (2 ^ 32 - 1) && nat_lt (kept_at t n).change (2 ^ 64 - 1)) found.1 in
    let kept = and_parts (nat_lt (kept_at t n).generation (2 ^ 32 - 1)) (nat_lt (kept_at t n).change (2 ^ 64 - 1)) parts.1 in
    record {
      number = found.0;
      dead = none_from_test (table.get t.files n) (not-true (is_some (table.get t.files n)) parts.0);
      rises = kept.0;
      changes = kept.1;
    }

-- where one is free, the number of a new file is
pub new_number_free : (t : PlainTree) (start : ℕ) → IsWithinLimits t.geometry → is_none (first_free t start) ≡ false → IsFreeNumber t (new_number t start)
new_number_free t start limits h = go (first_free t start) refl h where
  go : (o : Option ℕ) → first_free t start ≡ o → is_none o ≡ false → IsFreeNumber t (unwrap_or o 0)
  go None is e = absurd cc
  go (Some n) is e = first_free_holds t start n limits is
