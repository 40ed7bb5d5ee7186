-- The blocks below a size.
use Rattle.std.proofs.Common.{◌≡◌, ℕ, ◌+◌, ◌-◌, ◌*◌, ◌/◌, ◌%◌, ◌<◌, ◌≤◌, ◌⊎◌, inl, inr, true, false, not, cond, T, List, length, Option, Some, None, refl, sym, ap, subst, ◌∙◌, arith}
use Rattle.std.specs.Prelude.{IsSome, is_some, nat_lt}
use Rattle.std.specs.Option.{option_map_or}
use Rattle.std.specs.Ordering.{nat_cmp}
use Rattle.std.specs.Cmp.{nat_cmp_total}
use Rattle.std.specs.FinMap.{FinMap, get, get-empty, insert, remove, entries, len, len-entries, len-insert, len-remove, empty_of_len}
use Rattle.std.proofs.lemmas.Bool.{cases_lt, cases_eq}
use Rattle.std.proofs.lemmas.Bool.Decides.{nat_tests}
use Rattle.std.proofs.lemmas.List.Filters.{length-filter_both}
use Rattle.sfs_base.proofs.MapLemmas.{greatest_has, greatest_none, entries_retain, get_past_insert, get_retain, get_past_remove, same_look_ups}
use Rattle.fs_rules.specs.declared.content.Content.TheVariants.{Regular}
use Rattle.fs_rules.specs.File.{BlockMap, greatest, chains_up_to, used}
use Rattle.fs_rules.specs.Contents.{blocks_below, zeroed_from, cut, resized}

-- what stands below a size, and what does not
pub get_below : (size : ℕ) (m : BlockMap) (q : ℕ) → 4096 * q < size → get (blocks_below size m) q ≡ get m q
get_below size m q lt =
    get_retain m (λ k. nat_lt (4096 * k) size) q ∙ ap (λ b. cond b (get m q) None) (let is : nat_lt (4096 * q) size ≡ true = grind (arith, nat_tests) in is)

pub get_not_below : (size : ℕ) (m : BlockMap) (q : ℕ) → size ≤ 4096 * q → get (blocks_below size m) q ≡ None
get_not_below size m q le =
    get_retain m (λ k. nat_lt (4096 * k) size) q ∙ ap (λ b. cond b (get m q) None) (let is : nat_lt (4096 * q) size ≡ false = grind (arith, nat_tests) in is)

-- where nothing stands at a size or behind it, all blocks are below it
pub below_all : (size : ℕ) (m : BlockMap) → ((q : ℕ) → size ≤ 4096 * q → get m q ≡ None) → blocks_below size m ≡ m
below_all size m none = same_look_ups (blocks_below size m) m (λ q. go q (cases_lt (4096 * q) size)) where
  go : (q : ℕ) → (4096 * q < size) ⊎ (size ≤ 4096 * q) → get (blocks_below size m) q ≡ get m q
  go q (inl lt) = get_below size m q lt
  go q (inr le) = get_not_below size m q le ∙ sym (none q le)

-- a block that begins at a size or behind it does not count
pub below_removed : (size : ℕ) (m : BlockMap) (k : ℕ) → size ≤ 4096 * k → blocks_below size (remove m k) ≡ blocks_below size m
below_removed size m k behind = same_look_ups (blocks_below size (remove m k)) (blocks_below size m) (λ q. go q (cases_lt (4096 * q) size)) where
  go : (q : ℕ) → (4096 * q < size) ⊎ (size ≤ 4096 * q) → get (blocks_below size (remove m k)) q ≡ get (blocks_below size m) q
  go q (inl lt) = get_below size (remove m k) q lt ∙ get_past_remove m k q (λ e. omega arith) ∙ sym (get_below size m q lt)
  go q (inr le) = get_not_below size (remove m k) q le ∙ sym (get_not_below size m q le)

module _ {X : Type 0} where
  some_len : (m : FinMap nat_cmp X) (k : ℕ) → IsSome (get m k) → len m ≡ 0 → ⊥
  some_len m k there none = subst T (sym there ∙ ap is_some (ap (λ n. get n k) (empty_of_len m none) ∙ get-empty nat_cmp k)) tt

  -- a map with a value less
  pub len_removed : (m : FinMap nat_cmp X) (k : ℕ) → IsSome (get m k) → len (remove m k) < len m
  len_removed m k there = go (cases_eq (len m) 0) where
    fewer : len (remove m k) ≡ len m - 1
    fewer = len-remove nat_cmp_total m k ∙ ap (λ b. cond b (len m - 1) (len m)) there

    go : (len m ≡ 0) ⊎ (len m ≡ 0 → ⊥) → len (remove m k) < len m
    go (inl e) = absurd (some_len m k there e)
    go (inr ne) = omega (arith, fewer)

-- ---- what a file uses with another size

-- blocks that stand in another map too have no greater index
chains_among : (c m : BlockMap) → ((q : ℕ) → IsSome (get c q) → IsSome (get m q)) → chains_up_to (greatest c) ≤ chains_up_to (greatest m)
chains_among c m among = go (greatest c) refl where
  above : (g : ℕ) → IsSome (get m g) → (o : Option ℕ) → greatest m ≡ o → g / 510 + 1 ≤ chains_up_to o
  above g there None is = absurd (subst T (sym there ∙ ap is_some (greatest_none m is g)) tt)
  above g there (Some h) is = by (cases_lt h g) where
    by : (h < g) ⊎ (g ≤ h) → g / 510 + 1 ≤ h / 510 + 1
    by (inl lt) = absurd (subst T (sym there ∙ ap is_some ((greatest_has m h is).1 g lt)) tt)
    by (inr le) = omega arith

  go : (o : Option ℕ) → greatest c ≡ o → chains_up_to o ≤ chains_up_to (greatest m)
  go None is = omega arith
  go (Some g) is = above g (among g (greatest_has c g is).0) (greatest m) refl

module _ (size : ℕ) (m : BlockMap) where
  below_among : (q : ℕ) → IsSome (get (blocks_below size m) q) → IsSome (get m q)
  below_among q there = go (cases_lt (4096 * q) size) where
    go : (4096 * q < size) ⊎ (size ≤ 4096 * q) → IsSome (get m q)
    go (inl lt) = subst IsSome (get_below size m q lt) there
    go (inr le) = absurd (subst T (sym there ∙ ap is_some (get_not_below size m q le)) tt)

  len_below : len (blocks_below size m) ≤ len m
  len_below =
      omega (
        arith,
        len-entries (blocks_below size m),
        ap (length {A = ℕ × List ℕ}) (entries_retain m (λ k. nat_lt (4096 * k) size)),
        len-entries m,
        length-filter_both (λ (e : ℕ × List ℕ). nat_lt (4096 * e.0) size) (λ e. not (nat_lt (4096 * e.0) size)) (λ e. refl) (entries m),
      )

  -- the last block, zeroed in part, is stored as before
  rest_zeroed : (z : List ℕ → List ℕ) (o : Option (List ℕ)) (k : ℕ) (b : BlockMap) → get b k ≡ o
      → (len (option_map_or (λ block. insert b k (z block)) o b) ≡ len b)
      × ((q : ℕ) → IsSome (get (option_map_or (λ block. insert b k (z block)) o b) q) → IsSome (get b q))
  rest_zeroed z None k b is = (refl, λ q there. there)
  rest_zeroed z (Some block) k b is =
      (len-insert nat_cmp_total b k (z block) ∙ ap (λ (o : Option (List ℕ)). cond (is_some o) (len b) (len b + 1)) is, λ q there. by q there (cases_eq q k)) where
        by : (q : ℕ) → IsSome (get (insert b k (z block)) q) → (q ≡ k) ⊎ (q ≡ k → ⊥) → IsSome (get b q)
        by q there (inl e) = subst IsSome (sym (ap (get b) e ∙ is)) refl
        by q there (inr ne) = subst IsSome (get_past_insert b k (z block) q ne) there

  cut_fewer : len (cut size m) + chains_up_to (greatest (cut size m)) ≤ len m + chains_up_to (greatest m)
  unfolding cut
  cut_fewer =
      let zeroed = rest_zeroed (zeroed_from (size % 4096)) (get (blocks_below size m) (size / 4096)) (size / 4096) (blocks_below size m) refl in
      omega (arith, zeroed.0, len_below, chains_among (cut size m) m (λ q there. below_among q (zeroed.1 q there)))

-- a file uses no more blocks with another size
pub used_resized : (old new : ℕ) (m : BlockMap) → used (Regular (resized old new m)) ≤ used (Regular m)
used_resized old new m =
    elim (nat_lt new old) as (λ b. used (Regular (cond b (cut new m) m)) ≤ used (Regular m)) [ true ↦ cut_fewer new m | false ↦ omega arith ]
