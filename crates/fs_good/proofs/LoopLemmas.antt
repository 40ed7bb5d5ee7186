-- What is asked of each slot of a list, and of each entry of a map, in a loop.
use Rattle.std.proofs.Common.{◌≡◌, ℕ, ◌+◌, ◌<◌, ◌≤◌, Bool, true, false, cond, T, ◌&&◌, List, [], ◌∷◌, length, get_or, Option, Some, None, inl, inr, refl, sym, ap, subst, ◌∙◌, arith}
use Rattle.std.specs.Prelude.{IsTrue, IsSome, is_some, slice_get, unwrap_or}
use Rattle.std.specs.List.{AllByRecursion}
use Rattle.std.specs.Ordering.{nat_cmp, eq_by_cmp, is_lt}
use Rattle.std.specs.FinMap.Entries.{below_all}
use Rattle.std.specs.FinMap.{FinMap, find, is_sorted, get, get-entries, entries, entries_sorted}
use Rattle.std.proofs.lemmas.Bool.{true≢false, cases_lt}
use Rattle.std.proofs.lemmas.Bool.Decides.{nat_tests}
use Rattle.std.proofs.lemmas.Option.{none-some, slice_get_within, slice_get_read}
use Rattle.fs_rules.specs.declared.entry.Entry.{Entry}
use Rattle.fs_rules.specs.File.{BlockMap}
use Rattle.fs_rules.specs.Good.{IsStored}
use Rattle.fs_good.specs.Places.{AreDistinct, Below, IsFirst, IsStoredBlock}

-- nothing follows from no, and what cannot be is answered by it
pub is_no : {P : Type 0} → (P → ⊥) → (IsTrue false → P) × (P → IsTrue false)
is_no not = (λ f. absurd (true≢false (sym f)), λ p. absurd (not p))

-- ---- slots

pub below_none : (P : Entry → Type 0) (slots : List (Option Entry)) → Below P slots 0
below_none P slots i e less is = absurd (omega (arith, less))

-- a loop's slot is the one at its place
module _ (slots : List (Option Entry)) (i : ℕ) (s : Option Entry) (within : i < length slots) (is : s ≡ get_or slots i s) where
  pub there : slice_get slots i ≡ Some s
  there = slice_get_read slots (length slots) i s refl within is

  pub at_place : (j : ℕ) (e : Entry) → j ≡ i → slice_get slots j ≡ Some (Some e) → s ≡ Some e
  at_place j e same found = ap (λ o. value o) (sym there ∙ ap (slice_get slots) (sym same) ∙ found)
    where
      value : Option (Option Entry) → Option Entry
      value None = None
      value (Some x) = x

module _ (P : Entry → Type 0) (slots : List (Option Entry)) (i : ℕ) (s : Option Entry) (within : i < length slots) (is : s ≡ get_or slots i s) where
  pub below_more : ((e : Entry) → s ≡ Some e → P e) → Below P slots i → Below P slots (i + 1)
  below_more here below j e less found = elim (cases_lt j i) [
    | inl before ↦ below j e before found
    | inr not_before ↦ here e (at_place slots i s within is j e (omega (arith, less, not_before)) found)
  ]

  pub below_not : (((e : Entry) → s ≡ Some e → P e) → ⊥) → ((j : ℕ) (e : Entry) → slice_get slots j ≡ Some (Some e) → P e) → ⊥
  below_not not_here all = not_here (λ e found. all i e (there slots i s within is ∙ ap Some found))

pub below_whole : (P : Entry → Type 0) (slots : List (Option Entry)) (end : ℕ) → length slots ≤ end → Below P slots end → (j : ℕ) (e : Entry) → slice_get slots j ≡ Some (Some e) → P e
below_whole P slots end whole below j e found = let less = slice_get_within slots j (Some e) found in below j e (omega (arith, less, whole)) found

-- names of which each is none of those before it are different
pub firsts_distinct : (slots : List (Option Entry)) (end : ℕ) → length slots ≤ end → ((i : ℕ) → i < end → IsFirst slots i) → AreDistinct slots
firsts_distinct slots end whole firsts i j e d at to same = elim (cases_lt i j) [
  | inl less ↦ let within = slice_get_within slots j (Some d) to in absurd (firsts j (omega (arith, within, whole)) d to i e less at same)
  | inr not_less ↦ elim (cases_lt j i) [
    | inl more ↦ let within = slice_get_within slots i (Some e) at in absurd (firsts i (omega (arith, within, whole)) e at j d more to (sym same))
    | inr not_more ↦ omega (arith, not_less, not_more)
  ]
]

pub distinct_first : (slots : List (Option Entry)) → AreDistinct slots → (i : ℕ) → IsFirst slots i
distinct_first slots distinct i d to j e less at same = let is = distinct j i e d at to same in omega (arith, is, less)

-- ---- entries

-- where all that are left have a property, all have it; and the other way round
abbrev pub Left : {X : Type 0} → (ℕ × X → Type 0) → List (ℕ × X) → List (ℕ × X) → Type 0
Left P rest all = (AllByRecursion P rest → AllByRecursion P all) × (AllByRecursion P all → AllByRecursion P rest)

module _ {X : Type 0} (P : ℕ × X → Type 0) where
  found_all : (es : List (ℕ × X)) → AllByRecursion P es → (k : ℕ) (v : X) → find nat_cmp k es ≡ Some v → P (k, v)
  found_all [] all k v is = absurd (none-some v is)
  found_all (e ∷ es) all k v is = go (eq_by_cmp nat_cmp k e.0) refl is (found_all es all.1 k v)
    where
      go : (b : Bool) → eq_by_cmp nat_cmp k e.0 ≡ b → cond b (Some e.1) (find nat_cmp k es) ≡ Some v → (find nat_cmp k es ≡ Some v → P (k, v)) → P (k, v)
      go true same found later =
          let key : k ≡ e.0 = grind (arith, nat_tests) in
          let value : e.1 ≡ v = ap (λ o. unwrap_or o v) found in
          subst (λ (x : X). P (k, x)) value (subst (λ (q : ℕ). P (q, e.1)) (sym key) all.0)
      go false other found later = later found

  -- all entries of a map have a property where all that is found in it has
  pub entries_all : (m : FinMap nat_cmp X) → AllByRecursion P (entries m) → (k : ℕ) (v : X) → get m k ≡ Some v → P (k, v)
  entries_all m all k v is = found_all (entries m) all k v (sym (get-entries m k) ∙ is)

  first : (a b : Bool) → T (a && b) → T a
  first true b h = tt
  first false b h = absurd h

  second : (a b : Bool) → T (a && b) → T b
  second true b h = h
  second false b h = absurd h

  -- what is found among entries stands above what is below all of them
  found_above : (q x : ℕ) (v : X) (es : List (ℕ × X)) → T (below_all nat_cmp x es) → find nat_cmp q es ≡ Some v → x < q
  found_above q x v [] h is = absurd (none-some v is)
  found_above q x v (e ∷ es) h is = go (eq_by_cmp nat_cmp q e.0) refl is (found_above q x v es (second (is_lt (nat_cmp x e.0)) (below_all nat_cmp x es) h))
    where
      below_it : T (is_lt (nat_cmp x e.0)) → x < e.0
      below_it k = grind (arith, nat_tests)

      go : (b : Bool) → eq_by_cmp nat_cmp q e.0 ≡ b → cond b (Some e.1) (find nat_cmp q es) ≡ Some v → (find nat_cmp q es ≡ Some v → x < q) → x < q
      go true same k later = let q_is : q ≡ e.0 = grind (arith, nat_tests) in omega (arith, below_it (first (is_lt (nat_cmp x e.0)) (below_all nat_cmp x es) h))
      go false same k later = later k

  all_found : (es : List (ℕ × X)) → T (is_sorted nat_cmp es) → ((k : ℕ) (v : X) → find nat_cmp k es ≡ Some v → P (k, v)) → AllByRecursion P es
  all_found [] sorted found = tt
  all_found (e ∷ es) sorted found =
      let here : eq_by_cmp nat_cmp e.0 e.0 ≡ true = grind (arith, nat_tests) in (
        found e.0 e.1 (ap (λ b. cond b (Some e.1) (find nat_cmp e.0 es)) here),
        all_found es (second (below_all nat_cmp e.0 es) (is_sorted nat_cmp es) sorted)
            (λ k v is.
            let above : e.0 < k = found_above k e.0 v es (first (below_all nat_cmp e.0 es) (is_sorted nat_cmp es) sorted) is in
            let apart : eq_by_cmp nat_cmp k e.0 ≡ false = grind (arith, nat_tests) in
            found k v (ap (λ b. cond b (Some e.1) (find nat_cmp k es)) apart ∙ is)),
      )

  pub all_entries : (m : FinMap nat_cmp X) → ((k : ℕ) (v : X) → get m k ≡ Some v → P (k, v)) → AllByRecursion P (entries m)
  all_entries m found = all_found (entries m) (entries_sorted m) (λ k v is. found k v (get-entries m k ∙ is))

  -- in a loop over the entries of a map
  module _ (m : FinMap nat_cmp X) (e : ℕ × X) (rest : List (ℕ × X)) (left : Left P (e ∷ rest) (entries m)) where
    pub left_more : P e → Left P rest (entries m)
    left_more holds = (λ all. left.0 (holds, all), λ all. (left.1 all).1)

    pub left_not : (P e → ⊥) → ((k : ℕ) (v : X) → get m k ≡ Some v → P (k, v)) → ⊥
    left_not not found = not (left.1 (all_entries m found)).0

  pub left_all : (m : FinMap nat_cmp X) → Left P (entries m) (entries m)
  left_all m = (λ all. all, λ all. all)

  pub left_none : (m : FinMap nat_cmp X) → Left P [] (entries m) → (k : ℕ) (v : X) → get m k ≡ Some v → P (k, v)
  left_none m left k v is = entries_all m (left.0 tt) k v is

-- ---- the stored blocks of a file

some_of : {A : Type 0} (o : Option A) → IsSome o → (x : A) × (o ≡ Some x)
some_of None some = absurd (true≢false (sym some))
some_of (Some x) some = (x, refl)

pub stored_from : (size : ℕ) (blocks : BlockMap) → ((k : ℕ) (bytes : List ℕ) → get blocks k ≡ Some bytes → IsStoredBlock size k bytes) → IsStored size blocks
stored_from size blocks each =
    record {
      below = λ k some. let found = some_of (get blocks k) some in (each k found.0 found.1).below;
      whole = λ k bytes is. (each k bytes is).whole;
      zeros = λ k i bytes is past. (each k bytes is).zeros i past;
    }

pub stored_to : (size : ℕ) (blocks : BlockMap) → IsStored size blocks → (k : ℕ) (bytes : List ℕ) → get blocks k ≡ Some bytes → IsStoredBlock size k bytes
stored_to size blocks stored k bytes is =
    record { below = stored.below k (ap is_some is); whole = stored.whole k bytes is; zeros = λ i past. stored.zeros k i bytes is past }
