-- Counts up to a cap.
use Rattle.std.proofs.Common.{◌≡◌, ◌≢◌, ℕ, ◌+◌, ◌<◌, ◌≤◌, Bool, true, false, cond, List, [], ◌∷◌, length, take, get_or, Option, Some, None, inl, inr, refl, sym, ap, subst, ◌∙◌, arith}
use Rattle.std.specs.Prelude.{◌==◌, IsSome, is_some, count_by, unwrap_or, if◌then◌else◌}
use Rattle.std.specs.Ordering.{nat_cmp}
use Rattle.std.specs.FinMap as table
use Rattle.std.specs.FinMap.{FinMap, get-empty}
use Rattle.std.proofs.lemmas.Bool.{cases_Bool, cases_eq, cases_lt, true≢false, eq-eqb, ne_eqb}
use Rattle.std.proofs.lemmas.List.Sums.{count_by_more_yes, count_by_more_no}
use Rattle.sfs_base.proofs.MapLemmas.{get_inserted, get_past_insert}
use Rattle.fs_rules.specs.declared.content.Content.{Content}
use Rattle.fs_rules.specs.declared.content.Content.TheVariants.{Regular, Link, Directory}
use Rattle.fs_rules.specs.declared.entry.Entry.{Entry}
use Rattle.fs_rules.specs.declared.file.File.{File}
use Rattle.fs_rules.specs.declared.plain_tree.PlainTree.{PlainTree}
use Rattle.fs_rules.specs.File.{slots_of}
use Rattle.fs_rules.specs.Good.{names_file, naming_slots}
use Rattle.fs_laws.proofs.SumLemmas.{count_found, sum_found}
use Rattle.fs_laws.proofs.WholeLemmas.{due, due_of, due_at, due_none, naming_of}
use Rattle.fs_good.specs.Counts.{cap, IsCapped, count_in, AreNamed}
use Rattle.fs_good.specs.Places.{AreInPlace}

pub capped_more : (c x h d : ℕ) → IsCapped c x → IsCapped d (c + h) → IsCapped d (x + h)
capped_more c x h d (inl same) (inl is) = inl (omega (arith, same, is))
capped_more c x h d (inl same) (inr past) = inr (past.0, (let more = past.1 in omega (arith, same, more)))
capped_more c x h d (inr both) (inl is) = let first = both.0 in let second = both.1 in inr (omega (arith, first, is), omega (arith, second))
capped_more c x h d (inr both) (inr past) = let second = both.1 in inr (past.0, omega (arith, second))

-- what is counted with what is still to come
pub capped_rest : (c h rest d total : ℕ) → IsCapped (c + (h + rest)) total → IsCapped d (c + h) → IsCapped (d + rest) total
capped_rest c h rest d total (inl same) (inl is) = inl (omega (arith, same, is))
capped_rest c h rest d total (inl same) (inr past) = let a = past.0 in let b = past.1 in inr (omega (arith, a), omega (arith, same, b))
capped_rest c h rest d total (inr both) (inl is) = let a = both.0 in inr (omega (arith, a, is), both.1)
capped_rest c h rest d total (inr both) (inr past) = let a = past.0 in inr (omega (arith, a), both.1)

-- below the cap a count is what is counted
pub capped_is : (c x : ℕ) → IsCapped c x → c < cap → c ≡ x
capped_is c x (inl same) small = same
capped_is c x (inr both) small = let a = both.0 in absurd (omega (arith, a, small))

pub capped_was : (c x : ℕ) → IsCapped c x → x < cap → c ≡ x
capped_was c x (inl same) small = same
capped_was c x (inr both) small = let a = both.1 in absurd (omega (arith, a, small))

-- ---- what stands in a table

pub count_inserted : (m new : FinMap nat_cmp ℕ) (k v : ℕ) → new ≡ table.insert m k v → count_in new k ≡ v
count_inserted m new k v is = ap (λ n. unwrap_or (table.get n k) 0) is ∙ ap (λ o. unwrap_or o 0) (get_inserted m k v k refl)

pub count_past : (m new : FinMap nat_cmp ℕ) (k v n : ℕ) → new ≡ table.insert m k v → n ≢ k → count_in new n ≡ count_in m n
count_past m new k v n is other = ap (λ x. unwrap_or (table.get x n) 0) is ∙ ap (λ o. unwrap_or o 0) (get_past_insert m k v n other)

pub count_none : (m : FinMap nat_cmp ℕ) (n : ℕ) → m ≡ table.empty → count_in m n ≡ 0
count_none m n is = ap (λ x. unwrap_or (table.get x n) 0) is ∙ ap (λ o. unwrap_or o 0) (get-empty nat_cmp n)

pub capped_end : (c x : ℕ) → IsCapped (c + 0) x → IsCapped c x
capped_end c x capped = let same : c + 0 ≡ c = omega arith in subst (λ (k : ℕ). IsCapped k x) same capped

-- ---- the names in slots

-- a number that is counted once more
pub one_counted : (counts new : FinMap nat_cmp ℕ) (e : Entry) → IsCapped (count_in new e.file) (count_in counts e.file + 1) → ((n : ℕ) → (n ≡ e.file → ⊥) → count_in new n ≡ count_in counts n)
    → (n : ℕ) → IsCapped (count_in new n) (count_in counts n + count_by (names_file n) (Some e ∷ []))
one_counted counts new e here others n = elim (cases_eq n e.file) [
  | inl same ↦
      let is : (e.file == n) ≡ true = eq-eqb e.file n (sym same) in
      subst (λ (b : Bool). IsCapped (count_in new n) (count_in counts n + (0 + cond b 1 0))) (sym is)
      (subst (λ (q : ℕ). IsCapped (count_in new q) (count_in counts q + 1)) (sym same) here)
  | inr other ↦
      let is : (e.file == n) ≡ false = ne_eqb e.file n (λ same. other (sym same)) in
      subst (λ (b : Bool). IsCapped (count_in new n) (count_in counts n + (0 + cond b 1 0))) (sym is)
      (inl (let same = others n other in omega (arith, same)))
]

pub none_counted : (counts : FinMap nat_cmp ℕ) (n : ℕ) → IsCapped (count_in counts n) (count_in counts n + count_by (names_file n) (None ∷ []))
none_counted counts n = inl (omega arith)

-- one slot more
count_one_more : (n : ℕ) (slots : List (Option Entry)) (i : ℕ) (s : Option Entry) → i < length slots → s ≡ get_or slots i s
    → count_by (names_file n) (take (i + 1) slots) ≡ count_by (names_file n) (take i slots) + count_by (names_file n) (s ∷ [])
count_one_more n slots i s within is = elim (cases_Bool (names_file n s)) [
  | inl yes_it ↦ count_by_more_yes (names_file n) slots i s within (ap (names_file n) (sym is) ∙ yes_it) ∙ ap (λ b. count_by (names_file n) (take i slots) + (0 + cond b 1 0)) (sym yes_it)
  | inr no_it ↦
      count_by_more_no (names_file n) slots i s within (ap (names_file n) (sym is) ∙ no_it)
      ∙ (let same : count_by (names_file n) (take i slots) ≡ count_by (names_file n) (take i slots) + (0 + 0) = omega arith in same)
      ∙ ap (λ b. count_by (names_file n) (take i slots) + (0 + cond b 1 0)) (sym no_it)
]

pub slots_counted : (n : ℕ) (slots : List (Option Entry)) (i : ℕ) (s : Option Entry) (c x d : ℕ) → i < length slots → s ≡ get_or slots i s → IsCapped c (x + count_by (names_file n) (take i slots))
    → IsCapped d (c + count_by (names_file n) (s ∷ [])) → IsCapped d (x + count_by (names_file n) (take (i + 1) slots))
slots_counted n slots i s c x d within is old new =
    let more = count_one_more n slots i s within is in
    let sum : x + count_by (names_file n) (take i slots) + count_by (names_file n) (s ∷ []) ≡ x + count_by (names_file n) (take (i + 1) slots) = omega (arith, more) in
    subst (IsCapped d) sum (capped_more c (x + count_by (names_file n) (take i slots)) (count_by (names_file n) (s ∷ [])) d old new)

-- ---- the whole tree

due_small : (n : ℕ) (f : File) (c : Content) → f.links ≤ 32000 → due_of n f c < cap
due_small n f (Regular blocks) few = omega (arith, few)
due_small n f (Link blocks) few = omega (arith, few)
due_small n f (Directory slots parent) few = elim (cases_eq n 1) [
  | inl one ↦ subst (λ (b : Bool). (if b then 0 else 1) < cap) (sym (eq-eqb n 1 one)) (omega arith)
  | inr other ↦ subst (λ (b : Bool). (if b then 0 else 1) < cap) (sym (ne_eqb n 1 other)) (omega arith)
]

module _ (t : PlainTree) (placed : AreInPlace t) where
  -- a number that is named is live
  named_lives : (n : ℕ) → 1 ≤ naming_slots t n → IsSome (table.get t.files n)
  named_lives n some =
      let found = sum_found (λ e. count_by (names_file n) (slots_of e.1.content)) t.files some in
      let passes = count_found (names_file n) (slots_of found.value.content) found.counts in
      let naming = naming_of n passes.value passes.passes in
      subst (λ (q : ℕ). IsSome (table.get t.files q)) naming.file (((placed found.number found.value found.there).under passes.place naming.entry (passes.there ∙ ap Some naming.is)).0)

  module _ (counts : FinMap nat_cmp ℕ) (counted : (n : ℕ) → IsCapped (count_in counts n) (naming_slots t n)) where
    -- one that is counted as often as it is due
    pub due_counted : (n : ℕ) (f : File) → table.get t.files n ≡ Some f → count_in counts n ≡ due_of n f f.content → naming_slots t n ≡ due t n
    due_counted n f live same =
        let few = (placed n f live).own.links in
        let small : count_in counts n < cap = subst (λ (k : ℕ). k < cap) (sym same) (due_small n f f.content few) in
        sym (capped_is (count_in counts n) (naming_slots t n) (counted n) small) ∙ same ∙ sym (due_at t n f f.content live refl)

    pub all_named : ((n : ℕ) (f : File) → table.get t.files n ≡ Some f → count_in counts n ≡ due_of n f f.content) → AreNamed t
    all_named same n = go (table.get t.files n) refl where
      none_names : (k : ℕ) → naming_slots t n ≡ k → table.get t.files n ≡ None → k ≡ 0
      none_names k is none = elim (cases_lt 0 k) [
        | inl some ↦ absurd (true≢false (sym (named_lives n (omega (arith, some, is))) ∙ ap is_some none))
        | inr not_some ↦ omega (arith, not_some)
      ]

      go : (o : Option File) → table.get t.files n ≡ o → naming_slots t n ≡ due t n
      go None none = none_names (naming_slots t n) refl none ∙ sym (due_none t n none)
      go (Some f) live = due_counted n f live (same n f live)

    pub named_counted : AreNamed t → (n : ℕ) (f : File) → table.get t.files n ≡ Some f → count_in counts n ≡ due_of n f f.content
    named_counted named n f live =
        let few = (placed n f live).own.links in
        let is : naming_slots t n ≡ due_of n f f.content = named n ∙ due_at t n f f.content live refl in
        let small : naming_slots t n < cap = subst (λ (k : ℕ). k < cap) (sym is) (due_small n f f.content few) in
        capped_was (count_in counts n) (naming_slots t n) (counted n) small ∙ is
