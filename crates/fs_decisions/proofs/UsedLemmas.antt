-- A file whose size is set uses no more blocks than before.
use Rattle.std.proofs.Common.{◌≡◌, ℕ, ◌+◌, ◌*◌, ◌/◌, ◌%◌, ◌<◌, ◌≤◌, ◌⊎◌, inl, inr, Bool, true, false, cond, ltb, List, [], ◌∷◌, length, Option, Some, None, refl, sym, ap, subst, ◌∙◌, arith}
use Rattle.std.specs.Prelude.{IsSome, is_some, filter}
use Rattle.std.specs.Option.{option_map_or}
use Rattle.std.specs.Cmp.{nat_cmp_total}
use Rattle.std.specs.FinMap.{get, insert, len, len-entries, len-insert, entries, get-insert}
use Rattle.std.proofs.lemmas.Bool.{cases_lt}
use Rattle.std.proofs.lemmas.Bool.Decides.{nat_tests}
use Rattle.std.specs.Ordering.{nat_cmp, eq_by_cmp}
use Rattle.sfs_base.proofs.MapLemmas.{greatest_has, greatest_none, get_retain, entries_retain}
use Rattle.fs_rules.specs.declared.content.Content.{Content}
use Rattle.fs_rules.specs.declared.content.Content.TheVariants.{Regular, Link, Directory}
use Rattle.fs_rules.specs.File.{BlockMap, greatest, chains_up_to, used}
use Rattle.fs_rules.specs.Contents.{zeroed_from, blocks_below, cut, resized}
use Rattle.fs_rules.specs.Attributes.{resized_content}

-- a comparison that answers so is of equal numbers
same_number : (n m : ℕ) → eq_by_cmp nat_cmp n m ≡ true → n ≡ m
same_number n m is = grind (arith, nat_tests)

fewer : {X : Type 0} (p : X → Bool) (xs : List X) → length (filter p xs) ≤ length xs
fewer p [] = omega arith
fewer p (x ∷ xs) =
    elim (p x) as (λ b. length (cond b (x ∷ filter p xs) (filter p xs)) ≤ length (x ∷ xs)) [
      | true ↦ omega (arith, fewer p xs)
      | false ↦ omega (arith, fewer p xs)
    ]

-- chaining blocks for indices that another map has too
chains_fewer : (m n : BlockMap) → ((q : ℕ) → IsSome (get n q) → IsSome (get m q)) → chains_up_to (greatest n) ≤ chains_up_to (greatest m)
chains_fewer m n part = go (greatest n) refl (greatest m) refl where
  go : (a : Option ℕ) → greatest n ≡ a → (b : Option ℕ) → greatest m ≡ b → chains_up_to a ≤ chains_up_to b
  go None none b is = omega arith
  go (Some g) some None none =
      absurd (let there : IsSome (get m g) = part g (greatest_has n g some).0 in
      let not_there : get m g ≡ None = greatest_none m none g in
      let both : false ≡ true = sym (ap (λ (o : Option (List ℕ)). is_some o) not_there) ∙ there in cc)
  go (Some g) some (Some h) is =
      let there : IsSome (get m g) = part g (greatest_has n g some).0 in
      within g h there (greatest_has m h is).1 (cases_lt h g)
    where
      within : (g h : ℕ) → IsSome (get m g) → ((q : ℕ) → h < q → get m q ≡ None) → (h < g) ⊎ (g ≤ h) → g / 510 + 1 ≤ h / 510 + 1
      within g h there past (inl above) =
          absurd (let both : false ≡ true = sym (ap (λ (o : Option (List ℕ)). is_some o) (past g above)) ∙ there in cc)
      within g h there past (inr below) = omega arith

-- a stored block below a size was stored
below_part : (size : ℕ) (blocks : BlockMap) (q : ℕ) → IsSome (get (blocks_below size blocks) q) → IsSome (get blocks q)
below_part size blocks q there =
    kept (ltb (4096 * q) size) (get blocks q) (subst IsSome (get_retain blocks (λ k. ltb (4096 * k) size) q) there)
  where
    kept : (b : Bool) (o : Option (List ℕ)) → IsSome (cond b o None) → IsSome o
    kept true o there = there
    kept false o there = absurd cc

-- and there are no more
below_fewer : (size : ℕ) (blocks : BlockMap) → len (blocks_below size blocks) ≤ len blocks
below_fewer size blocks =
    let kept = entries_retain blocks (λ k. ltb (4096 * k) size) in
    omega (arith, len-entries (blocks_below size blocks), len-entries blocks, ap (λ (es : List (ℕ × List ℕ)). length es) kept, fewer (λ (e : ℕ × List ℕ). ltb (4096 * e.0) size) (entries blocks))

-- one of them changed
module _ (m : BlockMap) (k : ℕ) (b v : List ℕ) (there : get m k ≡ Some b) where
  same_many : len (insert m k v) ≡ len m
  same_many = len-insert nat_cmp_total m k v ∙ ap (λ (o : Option (List ℕ)). cond (is_some o) (len m) (len m + 1)) there

  same_part : (q : ℕ) → IsSome (get (insert m k v) q) → IsSome (get m q)
  same_part q = subst (λ (o : Option (List ℕ)). IsSome o → IsSome (get m q)) (sym (get-insert nat_cmp_total m k v q)) (by_key (eq_by_cmp nat_cmp q k) refl)
    where
      by_key : (e : Bool) → eq_by_cmp nat_cmp q k ≡ e → IsSome (cond e (Some v) (get m q)) → IsSome (get m q)
      by_key false is there = there
      by_key true is _ = subst (λ (i : ℕ). IsSome (get m i)) (sym (same_number q k is)) (subst IsSome (sym there) refl)

used_below : (size : ℕ) (blocks : BlockMap) → len (blocks_below size blocks) + chains_up_to (greatest (blocks_below size blocks)) ≤ len blocks + chains_up_to (greatest blocks)
used_below size blocks = omega (arith, below_fewer size blocks, chains_fewer blocks (blocks_below size blocks) (below_part size blocks))

used_cut : (size : ℕ) (blocks : BlockMap) → len (cut size blocks) + chains_up_to (greatest (cut size blocks)) ≤ len blocks + chains_up_to (greatest blocks)
unfolding cut
used_cut size blocks = go (get (blocks_below size blocks) (size / 4096)) refl where
  m : BlockMap
  m = blocks_below size blocks

  Less : BlockMap → Type 0
  Less n = len n + chains_up_to (greatest n) ≤ len blocks + chains_up_to (greatest blocks)

  go : (o : Option (List ℕ)) → get m (size / 4096) ≡ o → Less (option_map_or (λ block. insert m (size / 4096) (zeroed_from (size % 4096) block)) o m)
  go None is = used_below size blocks
  go (Some b) is =
      let v = zeroed_from (size % 4096) b in
      omega (arith, used_below size blocks, same_many m (size / 4096) b v is, chains_fewer m (insert m (size / 4096) v) (same_part m (size / 4096) b v is))

used_resized : (old new : ℕ) (blocks : BlockMap) → len (resized old new blocks) + chains_up_to (greatest (resized old new blocks)) ≤ len blocks + chains_up_to (greatest blocks)
used_resized old new blocks =
    elim (ltb new old) as (λ b. len (cond b (cut new blocks) blocks) + chains_up_to (greatest (cond b (cut new blocks) blocks)) ≤ len blocks + chains_up_to (greatest blocks)) [
      | true ↦ used_cut new blocks
      | false ↦ omega arith
    ]

-- so a file uses no more after its size was set
pub used_after_resize : (old new : ℕ) (content : Content) → used (resized_content old new content) ≤ used content
used_after_resize old new (Regular blocks) = used_resized old new blocks
used_after_resize old new (Directory slots parent) = omega arith
used_after_resize old new (Link blocks) = omega arith
