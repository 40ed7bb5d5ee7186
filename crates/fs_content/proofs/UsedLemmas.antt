-- What a file uses after bytes were written.
use Rattle.std.proofs.Common.{◌≡◌, ◌≢◌, ℕ, suc, ◌+◌, ◌-◌, ◌/◌, ◌<◌, ◌≤◌, ◌⊎◌, inl, inr, cond, List, Option, Some, None, length, max, refl, sym, ap, subst, ◌∙◌, arith}
use Rattle.std.specs.Prelude.{IsSome, is_some}
use Rattle.std.specs.Option.{option_map_or}
use Rattle.std.specs.Cmp.{nat_cmp_total}
use Rattle.std.specs.FinMap.{get, len, len-insert}
use Rattle.std.proofs.lemmas.Bool.{cases_lt}
use Rattle.sfs_base.proofs.MapLemmas.{greatest_has, greatest_none, greatest_is}
use Rattle.fs_rules.specs.File.{BlockMap, greatest, chains_up_to}
use Rattle.fs_rules.specs.Contents.{store, written}
use Rattle.fs_content.specs.Pieces.{from_on}
use Rattle.fs_content.proofs.WrittenLemmas.{store_none, store_more, get_unstored, get_touched, get_untouched, written_none}

-- one index more is stored
module _ (block : ℕ → List ℕ) (first : ℕ) (m : BlockMap) where
  len_more : (n : ℕ) → len (store block (from_on first (suc n)) m)
      ≡ cond (is_some (get m (first + n))) (len (store block (from_on first n) m)) (len (store block (from_on first n) m) + 1)
  len_more n =
      ap (λ b. len b) (store_more block first m n)
      ∙ len-insert nat_cmp_total (store block (from_on first n) m) (first + n) (block (first + n))
      ∙ ap (λ (o : Option (List ℕ)). cond (is_some o) (len (store block (from_on first n) m)) (len (store block (from_on first n) m) + 1))
      (get_unstored block first m n (first + n) (inr (omega arith)))

  pub len_begun : (count i : ℕ) → count ≡ len m → count ≡ len (store block (from_on first (i - i)) m)
  len_begun count i is = is ∙ sym (ap (λ n. len (store block (from_on first n) m)) (let e : i - i ≡ 0 = omega arith in e) ∙ ap (λ b. len b) (store_none block first m))

  pub len_absent : (i count : ℕ) → first ≤ i → count ≡ len (store block (from_on first (i - first)) m) → get m i ≡ None
      → count + 1 ≡ len (store block (from_on first (i + 1 - first)) m)
  len_absent i count le so_far none =
      let here : first + (i - first) ≡ i = omega arith in
      ap (λ n. n + 1) so_far
      ∙ sym (ap (λ n. len (store block (from_on first n) m)) (let e : i + 1 - first ≡ suc (i - first) = omega arith in e) ∙ len_more (i - first)
      ∙ ap (λ (o : Option (List ℕ)). cond (is_some o) (len (store block (from_on first (i - first)) m)) (len (store block (from_on first (i - first)) m) + 1))
      (ap (get m) here ∙ none))

  pub len_there : (i count : ℕ) (b : List ℕ) → first ≤ i → count ≡ len (store block (from_on first (i - first)) m) → get m i ≡ Some b
      → count ≡ len (store block (from_on first (i + 1 - first)) m)
  len_there i count b le so_far there =
      let here : first + (i - first) ≡ i = omega arith in
      so_far
      ∙ sym (ap (λ n. len (store block (from_on first n) m)) (let e : i + 1 - first ≡ suc (i - first) = omega arith in e) ∙ len_more (i - first)
      ∙ ap (λ (o : Option (List ℕ)). cond (is_some o) (len (store block (from_on first (i - first)) m)) (len (store block (from_on first (i - first)) m) + 1))
      (ap (get m) here ∙ there))

-- the greatest index after a write
module _ (blocks : BlockMap) (offset : ℕ) (bytes : List ℕ) (some : length bytes ≢ 0) where
  abbrev last : ℕ
  last = (offset + length bytes - 1) / 4096

  last_there : IsSome (get (written blocks offset bytes) last)
  last_there = subst IsSome (sym (get_touched blocks offset bytes last some (omega arith) (omega arith))) refl

  behind_last : (q : ℕ) → last < q → get (written blocks offset bytes) q ≡ get blocks q
  behind_last q lt = get_untouched blocks offset bytes q (inr (inr (omega arith)))

  pub greatest_written : greatest (written blocks offset bytes) ≡ Some (option_map_or (λ index. max index last) (greatest blocks) last)
  greatest_written = go (greatest blocks) refl where
    go : (o : Option ℕ) → greatest blocks ≡ o → greatest (written blocks offset bytes) ≡ Some (option_map_or (λ index. max index last) o last)
    go None is = greatest_is (written blocks offset bytes) last last_there (λ q lt. behind_last q lt ∙ greatest_none blocks is q)
    go (Some g) is = by (cases_lt last g) where
      by : (last < g) ⊎ (g ≤ last) → greatest (written blocks offset bytes) ≡ Some (max g last)
      by (inl lt) =
          greatest_is (written blocks offset bytes) g (subst IsSome (sym (behind_last g lt)) (greatest_has blocks g is).0)
          (λ q h. behind_last q (omega arith) ∙ (greatest_has blocks g is).1 q h)
          ∙ ap Some (let e : g ≡ max g last = omega arith in e)
      by (inr le) =
          greatest_is (written blocks offset bytes) last last_there (λ q h. behind_last q h ∙ (greatest_has blocks g is).1 q (omega arith))
          ∙ ap Some (let e : last ≡ max g last = omega arith in e)

-- the blocks and those that refer to them
pub used_sum : (b : BlockMap) (count chains : ℕ) (g : Option ℕ) → count ≡ len b → greatest b ≡ g → chains ≡ chains_up_to g → count + chains ≡ len b + chains_up_to (greatest b)
used_sum b count chains g counted is chained = let e : chains_up_to (greatest b) ≡ chains_up_to g = ap chains_up_to is in omega arith

-- nothing is written
pub used_unchanged : (blocks : BlockMap) (offset : ℕ) (bytes : List ℕ) (n : ℕ) → length bytes ≡ 0 → n ≡ len blocks + chains_up_to (greatest blocks)
    → n ≡ len (written blocks offset bytes) + chains_up_to (greatest (written blocks offset bytes))
used_unchanged blocks offset bytes n none is = is ∙ ap (λ b. len b + chains_up_to (greatest b)) (sym (written_none blocks offset bytes none))
