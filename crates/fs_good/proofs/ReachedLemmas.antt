-- The directories that are reached from the root by the slots.
use Rattle.std.proofs.Common.{◌≡◌, ◌≢◌, ◌⊎◌, ℕ, zero, suc, ◌+◌, ◌-◌, ◌<◌, ◌≤◌, cond, List, [], ◌∷◌, ◌++◌, length, Option, Some, None, inl, inr, refl, sym, ap, subst, ◌∙◌, arith}
use Rattle.std.specs.Prelude.{◌==◌, MatchOption, IsSome, is_some, IsTrue, slice_get, count_by, Contains, option_and_then, if◌then◌else◌}
use Rattle.std.specs.Option.{option_map_or}
use Rattle.std.specs.Cmp.{nat_cmp_total}
use Rattle.std.specs.Ordering.{nat_cmp}
use Rattle.std.specs.FinMap as table
use Rattle.std.specs.FinMap.{FinMap, get, remove, len, entries, find, get-empty, get-entries, len-entries, len-remove, len-empty}
use Rattle.std.proofs.lemmas.Bool.{cases_eq, cases_lt, true≢false, eq-eqb, ne_eqb, eqb-true}
use Rattle.std.proofs.lemmas.List.{length-append}
use Rattle.std.proofs.lemmas.List.Elements.{Contains-append_left, Contains-push, Contains-push_cases}
use Rattle.std.proofs.lemmas.Option.{none-some, slice_get_within}
use Rattle.sfs_base.proofs.MapLemmas.{get_removed, get_past_remove, same_look_ups}
use Rattle.fs_rules.specs.declared.content.Content.{Content}
use Rattle.fs_rules.specs.declared.content.Content.TheVariants.{Regular, Link, Directory}
use Rattle.fs_rules.specs.declared.entry.Entry.{Entry}
use Rattle.fs_rules.specs.declared.file.File.{File}
use Rattle.fs_rules.specs.declared.plain_tree.PlainTree.{PlainTree}
use Rattle.fs_rules.specs.File.{slots_of, parent_of}
use Rattle.fs_rules.specs.Geometry.{IsWithinLimits}
use Rattle.fs_rules.specs.Good.{names_file, naming_slots, parent_at, ancestor}
use Rattle.fs_rules.specs.Numbers.{IsNumber}
use Rattle.fs_laws.proofs.SumLemmas.{count_found, sum_found}
use Rattle.fs_laws.proofs.WholeLemmas.{Leads, IsDirectory, directory_at, due_at, naming_of}
use Rattle.fs_good.specs.Reached.{AllLead, IsReady, AreParents, IsReachedTo, slots_in, IsNamedBelow, IsReached, IsSlotReached, Reaches}

-- ---- a number is reached

no_entries : (es : List (ℕ × ℕ)) (q : ℕ) → length es ≡ 0 → find nat_cmp q es ≡ None
no_entries [] q none = refl
no_entries (e ∷ es) q none = absurd (omega (arith, none))

-- a map with something in it is not empty
pub some_length : (m : FinMap nat_cmp ℕ) (n p : ℕ) → get m n ≡ Some p → 1 ≤ len m
some_length m n p is = elim (cases_lt 0 (len m)) [
  | inl some ↦ some
  | inr not_some ↦
      let none : length (entries m) ≡ 0 = sym (len-entries m) ∙ (let zero_len : len m ≡ 0 = omega (arith, not_some) in zero_len) in
      absurd (none-some p (sym (get-entries m n ∙ no_entries (entries m) n none) ∙ is))
]

one_less : (m : FinMap nat_cmp ℕ) (n : ℕ) (o : Option ℕ) → get m n ≡ o → len (remove m n) ≡ cond (is_some o) (len m - 1) (len m)
one_less m n o is = len-remove nat_cmp_total m n ∙ ap (λ b. cond (is_some b) (len m - 1) (len m)) is

is_there : (o : Option ℕ) → IsSome o → (p : ℕ) × (o ≡ Some p)
is_there None some = absurd (true≢false (sym some))
is_there (Some p) some = (p, refl)

module _ (slots : List (Option Entry)) (i : ℕ) (e : Entry) (there : slice_get slots i ≡ Some (Some e)) (u w : FinMap nat_cmp ℕ) (xs ys : List ℕ) (reached : IsReached e.file u xs w ys) where
  abbrev k : ℕ
  k = e.file

  named_here : IsNamedBelow slots (i + 1) k
  named_here = record { place = i; entry = e; before = omega arith; there = there; file = refl }

  at : (n : ℕ) → get w n ≡ get (remove u k) n
  at n = ap (λ m. get m n) reached.0

  left_of : (n p : ℕ) → get w n ≡ Some p → get u n ≡ Some p
  left_of n p is = elim (cases_eq n k) [
    | inl same ↦ absurd (none-some p (sym (at n ∙ get_removed u k n same) ∙ is))
    | inr other ↦ sym (at n ∙ get_past_remove u k n other) ∙ is
  ]

  pub kept_of : (n : ℕ) → Contains xs n → Contains ys n
  kept_of n has = elim reached.1 [
    | inl none ↦ subst (λ zs. Contains zs n) (sym none.1) has
    | inr some ↦ subst (λ zs. Contains zs n) (sym some.1) (Contains-append_left xs (k ∷ []) n has)
  ]

  pub one_gone : (n : ℕ) → get w n ≡ None → (get u n ≡ None) ⊎ (Contains ys n × (n ≡ k))
  one_gone n none = elim (cases_eq n k) [
    | inr other ↦ inl (sym (at n ∙ get_past_remove u k n other) ∙ none)
    | inl same ↦ elim reached.1 [
      | inl absent ↦ inl (ap (get u) same ∙ absent.0)
      | inr some ↦ inr (subst (λ (q : ℕ). Contains ys q) (sym same) (subst (λ zs. Contains zs k) (sym some.1) (Contains-push xs k)), same)
    ]
  ]

  pub one_only : (n : ℕ) → Contains ys n → Contains xs n ⊎ (IsSome (get u n) × (n ≡ k))
  one_only n has = elim reached.1 [
    | inl absent ↦ inl (subst (λ zs. Contains zs n) absent.1 has)
    | inr some ↦ elim (Contains-push_cases xs k n (subst (λ zs. Contains zs n) some.1 has)) [
      | inl before ↦ inl before
      | inr same ↦ inr (subst (λ (q : ℕ). IsSome (get u q)) same some.0, sym same)
    ]
  ]

  pub one_sized : len w + length ys ≡ len u + length xs
  one_sized = elim reached.1 [
    | inl absent ↦
        let less : len w ≡ len u = ap len reached.0 ∙ one_less u k None absent.0 in
        let same : length ys ≡ length xs = ap length absent.1 in
        omega (arith, less, same)
    | inr some ↦
        let found = is_there (get u k) some.0 in
        let less : len w ≡ len u - 1 = ap len reached.0 ∙ one_less u k (Some found.0) found.1 in
        let most = some_length u k found.0 found.1 in
        let more : length ys ≡ length (xs ++ k ∷ []) = ap length some.1 in
        omega (arith, less, most, more, length-append xs (k ∷ []))
  ]

  pub one_left : (n p : ℕ) → get w n ≡ Some p → get u n ≡ Some p
  one_left = left_of

  pub one_named : get w k ≡ None
  one_named = at k ∙ get_removed u k k refl

-- what is not there does not come
none_stays : (u w : FinMap nat_cmp ℕ) (n : ℕ) → ((p : ℕ) → get w n ≡ Some p → get u n ≡ Some p) → get u n ≡ None → get w n ≡ None
none_stays u w n left none = go (get w n) refl where
  go : (o : Option ℕ) → get w n ≡ o → get w n ≡ None
  go None is = is
  go (Some p) is = absurd (none-some p (sym none ∙ left p is))

later : {slots : List (Option Entry)} (i n : ℕ) → IsNamedBelow slots i n → IsNamedBelow slots (i + 1) n
later i n h = record { place = h.place; entry = h.entry; before = (let less = h.before in omega (arith, less)); there = h.there; file = h.file }

-- ---- the slots of a directory

pub reaches_none : (slots : List (Option Entry)) (u : FinMap nat_cmp ℕ) (xs : List ℕ) → Reaches slots 0 u xs u xs
reaches_none slots u xs =
    record {
      left = λ n p is. is;
      named = λ n h. let less = h.before in absurd (omega (arith, less));
      gone = λ n none. inl none;
      kept = λ n has. has;
      only = λ n has. inl has;
      sized = refl;
    }

pub reaches_more : (slots : List (Option Entry)) (i : ℕ) (s : Option Entry) (u v w : FinMap nat_cmp ℕ) (xs ys zs : List ℕ) → slice_get slots i ≡ Some s → Reaches slots i u xs v ys
    → IsSlotReached s v ys w zs → Reaches slots (i + 1) u xs w zs
reaches_more slots i None u v w xs ys zs there old new =
    subst (λ m. Reaches slots (i + 1) u xs m zs) (sym new.0)
    (subst (λ l. Reaches slots (i + 1) u xs v l) (sym new.1)
    (record {
      left = old.left;
      named = λ n h. old.named n (not_here n h);
      gone = λ n none. later_gone n (old.gone n none);
      kept = old.kept;
      only = λ n has. later_only n (old.only n has);
      sized = old.sized;
    }))
  where
    not_here : (n : ℕ) → IsNamedBelow slots (i + 1) n → IsNamedBelow slots i n
    not_here n h = elim (cases_lt h.place i) [
      | inl less ↦ record { place = h.place; entry = h.entry; before = less; there = h.there; file = h.file }
      | inr not_less ↦
          let less = h.before in
          let same : h.place ≡ i = omega (arith, less, not_less) in
          let is : ◌≡◌ {A = Option (Option Entry)} (Some None) (Some (Some h.entry)) = sym there ∙ ap (slice_get slots) (sym same) ∙ h.there in
          absurd (none-some h.entry (ap (λ o. option_map_or (λ (x : Option Entry). x) o None) is))
    ]

    later_gone : (n : ℕ) → (get u n ≡ None) ⊎ (Contains ys n × IsNamedBelow slots i n) → (get u n ≡ None) ⊎ (Contains ys n × IsNamedBelow slots (i + 1) n)
    later_gone n (inl none) = inl none
    later_gone n (inr some) = inr (some.0, later i n some.1)

    later_only : (n : ℕ) → Contains xs n ⊎ (IsSome (get u n) × IsNamedBelow slots i n) → Contains xs n ⊎ (IsSome (get u n) × IsNamedBelow slots (i + 1) n)
    later_only n (inl has) = inl has
    later_only n (inr some) = inr (some.0, later i n some.1)
reaches_more slots i (Some e) u v w xs ys zs there old new =
    record {
      left = λ n p is. old.left n p (one_left slots i e there v w ys zs new n p is);
      named = named_of;
      gone = gone_of;
      kept = λ n has. kept_of slots i e there v w ys zs new n (old.kept n has);
      only = only_of;
      sized = one_sized slots i e there v w ys zs new ∙ old.sized;
    }
  where
    here : (n : ℕ) → n ≡ e.file → IsNamedBelow slots (i + 1) n
    here n same = record { place = i; entry = e; before = omega arith; there = there; file = sym same }

    named_of : (n : ℕ) → IsNamedBelow slots (i + 1) n → get w n ≡ None
    named_of n h = elim (cases_lt h.place i) [
      | inl less ↦
          none_stays v w n (λ p is. one_left slots i e there v w ys zs new n p is)
          (old.named n (record { place = h.place; entry = h.entry; before = less; there = h.there; file = h.file }))
      | inr not_less ↦
          let less = h.before in
          let same : h.place ≡ i = omega (arith, less, not_less) in
          let is : ◌≡◌ {A = Option (Option Entry)} (Some (Some e)) (Some (Some h.entry)) = sym there ∙ ap (slice_get slots) (sym same) ∙ h.there in
          let files : e.file ≡ h.entry.file = ap (λ o. option_map_or (λ (x : Option Entry). option_map_or (λ (y : Entry). y.file) x 0) o 0) is in
          ap (get w) (sym h.file ∙ sym files) ∙ one_named slots i e there v w ys zs new
    ]

    gone_of : (n : ℕ) → get w n ≡ None → (get u n ≡ None) ⊎ (Contains zs n × IsNamedBelow slots (i + 1) n)
    gone_of n none = elim (one_gone slots i e there v w ys zs new n none) [
      | inr now ↦ inr (now.0, here n now.1)
      | inl before ↦ elim (old.gone n before) [
        | inl never ↦ inl never
        | inr some ↦ inr (kept_of slots i e there v w ys zs new n some.0, later i n some.1)
      ]
    ]

    only_of : (n : ℕ) → Contains zs n → Contains xs n ⊎ (IsSome (get u n) × IsNamedBelow slots (i + 1) n)
    only_of n has = elim (one_only slots i e there v w ys zs new n has) [
      | inl before ↦ elim (old.only n before) [
        | inl never ↦ inl never
        | inr some ↦ inr (some.0, later i n some.1)
      ]
      | inr now ↦
          let found = is_there (get v n) now.0 in
          inr (ap is_some (old.left n found.0 found.1), here n now.1)
    ]

-- ---- the whole tree

module _ (t : PlainTree) (ready : IsReady t) where
  -- a parent leads on
  pub leads_child : (n p : ℕ) → parent_at t n ≡ Some p → Leads t p → Leads t n
  unfolding ancestor
  leads_child n p is leads = (suc leads.0, ap (option_and_then (ancestor t leads.0)) is ∙ leads.1)

  -- a directory that slots name lies under theirs
  named_under : (d n p : ℕ) → IsNamedBelow (slots_in t d) (length (slots_in t d)) n → parent_at t n ≡ Some p → p ≡ d
  named_under d n p h is = go (table.get t.files d) refl where
    go : (o : Option File) → table.get t.files d ≡ o → p ≡ d
    go None none =
        let no_slots : slots_in t d ≡ [] = ap (λ (o : Option File). option_map_or (λ f. slots_of f.content) o []) none in
        let less = h.before in
        absurd (omega (arith, less, ap length no_slots))
    go (Some f) live =
        let slots : slots_in t d ≡ slots_of f.content = ap (λ (o : Option File). option_map_or (λ f. slots_of f.content) o []) live in
        ((ready.placed d f live).under h.place h.entry (ap (λ l. slice_get l h.place) (sym slots) ∙ h.there)).1 p (ap (parent_at t) h.file ∙ is)

  -- each directory but the root is named by its parent
  pub named_by_parent : (n p : ℕ) → n ≢ 1 → parent_at t n ≡ Some p → IsNamedBelow (slots_in t p) (length (slots_in t p)) n
  named_by_parent n p other is =
      let d : IsDirectory t n p = directory_at t n p is in
      let due_is = ready.named n ∙ due_at t n d.file (Directory d.slots p) d.there d.content ∙ ap (λ b. if b then 0 else 1) (ne_eqb n 1 other) in
      let found = sum_found (λ e. count_by (names_file n) (slots_of e.1.content)) t.files (let some : 1 ≤ naming_slots t n = omega (arith, due_is) in some) in
      let passes = count_found (names_file n) (slots_of found.value.content) found.counts in
      let naming = naming_of n passes.value passes.passes in
      let slots : slots_in t found.number ≡ slots_of found.value.content = ap (λ (o : Option File). option_map_or (λ f. slots_of f.content) o []) found.there in
      let there : slice_get (slots_in t found.number) passes.place ≡ Some (Some naming.entry) = ap (λ l. slice_get l passes.place) slots ∙ passes.there ∙ ap Some naming.is in
      let here : IsNamedBelow (slots_in t found.number) (length (slots_in t found.number)) n =
      record { place = passes.place; entry = naming.entry; before = slice_get_within (slots_in t found.number) passes.place (Some naming.entry) there; there = there; file = naming.file } in
      subst (λ (q : ℕ). IsNamedBelow (slots_in t q) (length (slots_in t q)) n) (sym (named_under found.number n p here is)) here

  -- the parent of a directory is one
  parent_lives : (n p : ℕ) → n ≢ 1 → parent_at t n ≡ Some p → IsSome (parent_at t p)
  parent_lives n p other is = go (table.get t.files p) refl where
    named : IsNamedBelow (slots_in t p) (length (slots_in t p)) n
    named = named_by_parent n p other is

    has_slots : (c : Content) → 0 < length (slots_of c) → IsSome (parent_of c)
    has_slots (Regular blocks) some = absurd (omega (arith, some))
    has_slots (Link blocks) some = absurd (omega (arith, some))
    has_slots (Directory slots q) some = refl

    go : (o : Option File) → table.get t.files p ≡ o → IsSome (parent_at t p)
    go None none =
        let less = named.before in
        absurd (omega (arith, less, ap length (ap (λ (o : Option File). option_map_or (λ f. slots_of f.content) o []) none)))
    go (Some f) live =
        let less = named.before in
        let slots = ap length (ap (λ (o : Option File). option_map_or (λ f. slots_of f.content) o []) live) in
        ap is_some (ap (option_and_then (λ (g : File). parent_of g.content)) live) ∙ has_slots f.content (omega (arith, less, slots))

  root_leads : Leads t 1
  unfolding ancestor
  root_leads = (0, refl)

  -- a number that is none of the cluster has no directory
  no_parent : (n : ℕ) → (IsNumber t.geometry n → ⊥) → parent_at t n ≡ None
  no_parent n none = go (table.get t.files n) refl where
    go : (o : Option File) → table.get t.files n ≡ o → parent_at t n ≡ None
    go None is = ap (option_and_then (λ (g : File). parent_of g.content)) is
    go (Some f) is = absurd (none (ready.placed n f is).number)

  -- ---- the parents, number by number

  abbrev Noted : FinMap nat_cmp ℕ → ℕ → Type 0
  Noted parents end = (get parents 1 ≡ None) × ((n : ℕ) → n < end → n ≢ 1 → get parents n ≡ parent_at t n) × ((n : ℕ) → end ≤ n → get parents n ≡ None)

  pub noted_first : (parents : FinMap nat_cmp ℕ) → parents ≡ table.empty → Noted parents 2
  noted_first parents empty =
      let none : (n : ℕ) → get parents n ≡ None = (λ n. ap (λ m. get m n) empty ∙ get-empty nat_cmp n) in
      (none 1, (λ n less other. none n ∙ sym (no_parent n (λ number. let is = number.is in omega (arith, less, other, is)))), λ n past. none n)

  pub noted_more : (parents new : FinMap nat_cmp ℕ) (k : ℕ) → 2 ≤ k → Noted parents k → get new k ≡ parent_at t k → ((n : ℕ) → n ≢ k → get new n ≡ get parents n) → Noted new (k + 1)
  noted_more parents new k above noted here others = (
    others 1 (λ same. omega (arith, same, above)) ∙ noted.0,
    (λ n less other. elim (cases_eq n k) [
      | inl same ↦ ap (get new) same ∙ here ∙ ap (parent_at t) (sym same)
      | inr apart ↦ others n apart ∙ noted.1 n (omega (arith, less, apart)) other
    ]),
    λ n past. others n (λ same. omega (arith, same, past)) ∙ noted.2 n (omega (arith, past)),
  )

  pub noted_all : (parents : FinMap nat_cmp ℕ) (end : ℕ) → IsWithinLimits t.geometry → 131073 ≤ end → Noted parents end → AreParents t parents
  noted_all parents end limits past noted = (
    noted.0,
    λ n other. elim (cases_lt n end) [
      | inl less ↦ noted.1 n less other
      | inr not_less ↦
          noted.2 n (omega (arith, not_less)) ∙ sym (no_parent n (λ number.
          let is = number.is in
          let m = number.there.0 in
          let i = number.there.1 in
          omega (arith, not_less, past, is, m, i, limits.memories.1, limits.inodes.1)))
    ],
  )

  pub reached_first : (parents : FinMap nat_cmp ℕ) → AreParents t parents → IsReachedTo t parents (1 ∷ [])
  reached_first parents are =
      record {
        root = are.0;
        known = known_of;
        queued = λ n has. subst (λ (q : ℕ). Leads t q) (only_one n has) root_leads;
        parents = parents_are;
        pending = pending_of;
      }
    where
      only_one : (n : ℕ) → Contains (1 ∷ []) n → 1 ≡ n
      only_one n has = elim (Contains-push_cases [] 1 n has) [
        | inl none ↦ absurd (omega (arith, none.1))
        | inr same ↦ same
      ]

      not_root : (n p : ℕ) → get parents n ≡ Some p → n ≢ 1
      not_root n p is one = none-some p (sym are.0 ∙ ap (get parents) (sym one) ∙ is)

      parents_are : (n p : ℕ) → get parents n ≡ Some p → parent_at t n ≡ Some p
      parents_are n p is = sym (are.1 n (not_root n p is)) ∙ is

      known_of : (n p : ℕ) → parent_at t n ≡ Some p → get parents n ≡ None → Leads t n
      known_of n p is none = elim (cases_eq n 1) [
        | inl one ↦ subst (λ (q : ℕ). Leads t q) (sym one) root_leads
        | inr other ↦ absurd (none-some p (sym none ∙ are.1 n other ∙ is))
      ]

      pending_of : (n p : ℕ) → get parents n ≡ Some p → IsSome (get parents p) ⊎ Contains (1 ∷ []) p
      pending_of n p is = elim (cases_eq p 1) [
        | inl one ↦ inr (subst (λ (q : ℕ). Contains (1 ∷ []) q) (sym one) (Contains-push [] 1))
        | inr other ↦ inl (ap is_some (are.1 p other) ∙ parent_lives n p (not_root n p is) (parents_are n p is))
      ]

  pub reached_next : (u w : FinMap nat_cmp ℕ) (rest more : List ℕ) (d : ℕ) → IsReachedTo t u (rest ++ d ∷ []) → Reaches (slots_in t d) (length (slots_in t d)) u rest w more → IsReachedTo t w more
  reached_next u w rest more d old new =
      record {
        root = none_stays u w 1 (λ p is. new.left 1 p is) old.root;
        known = known_of;
        queued = queued_of;
        parents = λ n p is. old.parents n p (new.left n p is);
        pending = pending_of;
      }
    where
      led : Leads t d
      led = old.queued d (Contains-push rest d)

      known_of : (n p : ℕ) → parent_at t n ≡ Some p → get w n ≡ None → Leads t n
      known_of n p is none = elim (new.gone n none) [
        | inl before ↦ old.known n p is before
        | inr now ↦ leads_child n p is (subst (λ (q : ℕ). Leads t q) (sym (named_under d n p now.1 is)) led)
      ]

      queued_of : (n : ℕ) → Contains more n → Leads t n
      queued_of n has = elim (new.only n has) [
        | inl before ↦ old.queued n (Contains-append_left rest (d ∷ []) n before)
        | inr now ↦
            let found = is_there (get u n) now.0 in
            let is = old.parents n found.0 found.1 in
            leads_child n found.0 is (subst (λ (q : ℕ). Leads t q) (sym (named_under d n found.0 now.1 is)) led)
      ]

      -- a directory that is left has another parent
      elsewhere : (n p : ℕ) → get w n ≡ Some p → d ≡ p → ⊥
      elsewhere n p is same =
          let was = old.parents n p (new.left n p is) in
          let other : n ≢ 1 = (λ one. none-some p (sym old.root ∙ ap (get u) (sym one) ∙ new.left n p is)) in
          let named = subst (λ (q : ℕ). IsNamedBelow (slots_in t q) (length (slots_in t q)) n) (sym same) (named_by_parent n p other was) in
          none-some p (sym (new.named n named) ∙ is)

      still : (p : ℕ) → IsSome (get u p) → (o : Option ℕ) → get w p ≡ o → IsSome (get w p) ⊎ Contains more p
      still p some (Some q) is = inl (ap is_some is)
      still p some None is = elim (new.gone p is) [
        | inl none ↦ absurd (true≢false (sym some ∙ ap is_some none))
        | inr now ↦ inr now.0
      ]

      pending_of : (n p : ℕ) → get w n ≡ Some p → IsSome (get w p) ⊎ Contains more p
      pending_of n p is = elim (old.pending n p (new.left n p is)) [
        | inl some ↦ still p some (get w p) refl
        | inr has ↦ elim (Contains-push_cases rest d p has) [
          | inl before ↦ inr (new.kept p before)
          | inr same ↦ absurd (elsewhere n p is same)
        ]
      ]

  -- where all were looked into, none that is left leads to the root
  not_led : (u : FinMap nat_cmp ℕ) → IsReachedTo t u [] → (moves n p : ℕ) → get u n ≡ Some p → ancestor t moves n ≡ Some 1 → ⊥
  unfolding ancestor
  not_led u all zero n p is leads =
      let one : n ≡ 1 = ap (λ o. option_map_or (λ (x : ℕ). x) o n) leads in
      none-some p (sym all.root ∙ ap (get u) (sym one) ∙ is)
  not_led u all (suc moves) n p is leads = elim (all.pending n p is) [
    | inr has ↦ omega (arith, has.1)
    | inl some ↦
        let found = is_there (get u p) some in
        not_led u all moves p found.0 found.1 (sym (ap (option_and_then (ancestor t moves)) (all.parents n p is)) ∙ leads)
  ]

  pub reached_all : (u : FinMap nat_cmp ℕ) → IsReachedTo t u [] → (IsTrue (len u == 0) → AllLead t) × (AllLead t → IsTrue (len u == 0))
  reached_all u all = (
    λ empty n p is. all.known n p is (no_one n (get u n) refl (eqb-true (len u) 0 empty)),
    λ lead. eq-eqb (len u) 0 (ap len (same_look_ups u table.empty (λ q. none_left lead q (get u q) refl ∙ sym (get-empty nat_cmp q))) ∙ len-empty nat_cmp ℕ),
  )
    where
      no_one : (n : ℕ) (o : Option ℕ) → get u n ≡ o → len u ≡ 0 → get u n ≡ None
      no_one n None is none = is
      no_one n (Some p) is none = let some = some_length u n p is in absurd (omega (arith, some, none))

      none_left : AllLead t → (n : ℕ) (o : Option ℕ) → get u n ≡ o → get u n ≡ None
      none_left lead n None is = is
      none_left lead n (Some p) is = let leads = lead n p (all.parents n p is) in absurd (not_led u all leads.0 n p is leads.1)

  -- a file without slots names none
  pub reaches_empty : (d : ℕ) → slots_in t d ≡ [] → (u : FinMap nat_cmp ℕ) (xs : List ℕ) → Reaches (slots_in t d) (length (slots_in t d)) u xs u xs
  reaches_empty d none u xs = subst (λ (l : List (Option Entry)). Reaches l (length l) u xs u xs) (sym none) (reaches_none [] u xs)

pub empty_list : (xs : List ℕ) → length xs ≡ 0 → xs ≡ []
empty_list [] none = refl
empty_list (x ∷ xs) none = absurd (omega (arith, none))

pub none_popped : (o : Option ℕ) (rest left : ℕ) → ((x : ℕ) → o ≡ Some x → ⊥) → MatchOption o ((rest ≡ 0) × (left ≡ 0)) (λ x. left + 1 ≡ rest) → rest ≡ 0
none_popped None rest left not_some holds = holds.0
none_popped (Some x) rest left not_some holds = absurd (not_some x refl)
