-- One name of a directory is put or taken: the names of the tree stay in order.
use Rattle.std.proofs.Common.{◌≡◌, ◌≢◌, ℕ, zero, suc, ◌+◌, ◌≤◌, Bool, true, false, cond, List, [], ◌∷◌, Option, Some, None, ◌⊎◌, inl, inr, refl, sym, ap, subst, ◌∙◌, arith}
use Rattle.std.specs.Prelude.{◌==◌, is_some, count_by, option_and_then}
use Rattle.std.specs.Option.{option_map_or}
use Rattle.std.specs.FinMap as table
use Rattle.std.proofs.lemmas.Bool.{cases_eq, eq-eqb, ne_eqb}
use Rattle.std.proofs.lemmas.List.Sums.{sum_by-cons}
use Rattle.nfs_proto.specs.declared.stamp.Stamp.{Stamp}
use Rattle.fs_rules.specs.declared.content.Content.{Content}
use Rattle.fs_rules.specs.declared.content.Content.TheVariants.{Regular, Link, Directory}
use Rattle.fs_rules.specs.declared.entry.Entry.{Entry}
use Rattle.fs_rules.specs.declared.file.File.{File}
use Rattle.fs_rules.specs.declared.plain_tree.PlainTree.{PlainTree}
use Rattle.fs_rules.specs.File.{slots_of, parent_of}
use Rattle.fs_rules.specs.Edits.{Edit, Changed, changed_at, edited}
use Rattle.fs_rules.specs.Good.{names_file, naming_slots, parent_at, subdirectories, ancestor}
use Rattle.fs_laws.proofs.SumLemmas.{count_has}
use Rattle.fs_laws.proofs.WholeLemmas.{named_in, due_of, due, HasLinks, Leads, IsWhole, due_at, named_in_at, named_in_le, parent_is}
use Rattle.fs_laws.proofs.EditLemmas.{get_edited, number_of, after, gained, names_of, naming_edited}
use Rattle.fs_laws.proofs.ShapeLemmas.{IsShaped, subdirectories_alike}

-- ---- parents that lead to the root

-- one move more
pub leads_more : (u : PlainTree) (q p : ℕ) → parent_at u q ≡ Some p → Leads u p → Leads u q
unfolding ancestor
leads_more u q p parent leads = (suc leads.0, ap (option_and_then (ancestor u leads.0)) parent ∙ leads.1)

pub leads_none : (u : PlainTree) → Leads u 1
unfolding ancestor
leads_none u = (0, refl)

-- a step to the parent
pub record FirstStep (t : PlainTree) (moves q : ℕ) : Type 0 where
  pub parent : ℕ
  pub is : parent_at t q ≡ Some parent
  pub rest : ancestor t moves parent ≡ Some 1

pub first_step : (t : PlainTree) (moves q : ℕ) → ancestor t (suc moves) q ≡ Some 1 → FirstStep t moves q
unfolding ancestor
first_step t moves q h = go (parent_at t q) refl h where
  go : (o : Option ℕ) → parent_at t q ≡ o → option_and_then (ancestor t moves) o ≡ Some 1 → FirstStep t moves q
  go None is e = absurd cc
  go (Some p) is e = record { parent = p; is = is; rest = e }

pub no_step : (t : PlainTree) (q : ℕ) → ancestor t zero q ≡ Some 1 → q ≡ 1
unfolding ancestor
no_step t q h = let e : ◌≡◌ {A = Option ℕ} (Some q) (Some 1) = h in cc

-- where each file that is kept has its parent kept, or leads to the root anyway, each of them leads there
pub leads_kept : (t u : PlainTree) (Kept : ℕ → Type 0)
    → ((q p : ℕ) → Kept q → q ≢ 1 → parent_at t q ≡ Some p → ((parent_at u q ≡ Some p) × Kept p) ⊎ Leads u q)
    → (moves q : ℕ) → Kept q → ancestor t moves q ≡ Some 1 → Leads u q
leads_kept t u Kept step zero q kept h = subst (Leads u) (sym (no_step t q h)) (leads_none u)
leads_kept t u Kept step (suc moves) q kept h = elim (cases_eq q 1) [
  | inl root ↦ subst (Leads u) (sym root) (leads_none u)
  | inr other ↦
      let f = first_step t moves q h in
      elim (step q f.parent kept other f.is) [
        | inl same ↦ leads_more u q f.parent same.0 (leads_kept t u Kept step moves f.parent same.1 f.rest)
        | inr anyway ↦ anyway
      ]
]

-- ---- one name

-- what a file that may be there has of a parent, and of slots that are due
abbrev pub parent_after : Stamp → Edit → Option ℕ
parent_after now x = option_and_then (λ (f : File). parent_of f.content) (after now x)

abbrev pub due_after : Stamp → Edit → ℕ
due_after now x = option_map_or (λ (f : File). due_of (number_of x) f f.content) (after now x) 0

abbrev pub stepped : Stamp → PlainTree → ℕ → File → Edit → PlainTree
stepped now t n d' x = edited now t (Changed n d' ∷ x ∷ [])

-- the directory n, which is d, becomes d', whose slots name the file of another edit once more or once less: what a test of
-- that slot counts, less and more, says which
pub record IsStep (now : Stamp) (t : PlainTree) (n : ℕ) (d d' : File) (x : Edit) (slots slots' : List (Option Entry)) (parent : ℕ) (less more : Bool → ℕ) : Type 0 where
  pub whole : IsWhole t
  pub there : table.get t.files n ≡ Some d
  pub content : d.content ≡ Directory slots parent
  pub content' : d'.content ≡ Directory slots' parent
  pub apart : number_of x ≢ n
  pub not_root : number_of x ≢ 1
  pub nothing : (less false ≡ 0) × (more false ≡ 0)
  pub counts : (q : ℕ) → count_by (names_file q) slots' + less (number_of x == q) ≡ count_by (names_file q) slots + more (number_of x == q)
  pub none_before : (q : ℕ) → named_in t (number_of x) q ≡ 0
  pub none_after : (q : ℕ) → gained (names_of q) x ≡ 0
  pub dues : due_after now x + less true ≡ due t (number_of x) + more true
  pub links : d'.links ≡ 2 + subdirectories (stepped now t n d' x) slots'
  pub turned : (is_some (parent_after now x) ≡ is_some (parent_at t (number_of x)))
      ⊎ ((naming_slots t (number_of x) ≡ 0) ⊎ (naming_slots (stepped now t n d' x) (number_of x) ≡ 0))
  pub own_links : (f : File) → after now x ≡ Some f → HasLinks (stepped now t n d' x) f f.content
  pub parent' : (k : ℕ) → parent_after now x ≡ Some k → (k ≡ n) × (named_in (stepped now t n d' x) n (number_of x) ≡ 1)

-- the look-ups behind a step need the numbers alone
module _ (now : Stamp) (t : PlainTree) (n : ℕ) (d' : File) (x : Edit) (apart : number_of x ≢ n) where
  pub get_dir : table.get (stepped now t n d' x).files n ≡ Some (changed_at now d')
  get_dir = get_edited now t (Changed n d' ∷ x ∷ []) n
      ∙ ap (λ b. cond b (after now x) (cond (n == n) (Some (changed_at now d')) (table.get t.files n))) (ne_eqb n (number_of x) (λ same. apart (sym same)))
      ∙ ap (λ b. cond b (Some (changed_at now d')) (table.get t.files n)) (eq-eqb n n refl)

  pub get_file : table.get (stepped now t n d' x).files (number_of x) ≡ after now x
  get_file = get_edited now t (Changed n d' ∷ x ∷ []) (number_of x)
      ∙ ap (λ b. cond b (after now x) (cond (number_of x == n) (Some (changed_at now d')) (table.get t.files (number_of x)))) (eq-eqb (number_of x) (number_of x) refl)

  pub get_other : (q : ℕ) → q ≢ n → q ≢ number_of x → table.get (stepped now t n d' x).files q ≡ table.get t.files q
  get_other q apart_n apart_x = get_edited now t (Changed n d' ∷ x ∷ []) q
      ∙ ap (λ b. cond b (after now x) (cond (q == n) (Some (changed_at now d')) (table.get t.files q))) (ne_eqb q (number_of x) apart_x)
      ∙ ap (λ b. cond b (Some (changed_at now d')) (table.get t.files q)) (ne_eqb q n apart_n)

pub parent_there : (now : Stamp) (t : PlainTree) (n : ℕ) (d' : File) (x : Edit) → number_of x ≢ n → parent_at (stepped now t n d' x) (number_of x) ≡ parent_after now x
parent_there now t n d' x apart = ap (option_and_then (λ (f : File). parent_of f.content)) (get_file now t n d' x apart)

pub parents_elsewhere : (now : Stamp) (t : PlainTree) (n : ℕ) (d d' : File) (x : Edit) (slots slots' : List (Option Entry)) (parent : ℕ) → number_of x ≢ n
    → table.get t.files n ≡ Some d → d.content ≡ Directory slots parent → d'.content ≡ Directory slots' parent
    → (q : ℕ) → q ≢ number_of x → parent_at (stepped now t n d' x) q ≡ parent_at t q
parents_elsewhere now t n d d' x slots slots' parent apart there content content' q apart_m = elim (cases_eq q n) [
  | inl at ↦ ap (parent_at (stepped now t n d' x)) at ∙ parent_is (stepped now t n d' x) n parent (changed_at now d') slots' (get_dir now t n d' x apart) content'
      ∙ sym (parent_is t n parent d slots there content) ∙ ap (parent_at t) (sym at)
  | inr apart_n ↦ ap (option_and_then (λ (f : File). parent_of f.content)) (get_other now t n d' x apart q apart_n apart_m)
]

-- how many slots name a file afterwards
pub naming_stepped : (now : Stamp) (t : PlainTree) (n : ℕ) (d d' : File) (x : Edit) (slots slots' : List (Option Entry)) (parent : ℕ) → number_of x ≢ n
    → table.get t.files n ≡ Some d → d.content ≡ Directory slots parent → d'.content ≡ Directory slots' parent → (q less more : ℕ)
    → count_by (names_file q) slots' + less ≡ count_by (names_file q) slots + more → named_in t (number_of x) q ≡ 0 → gained (names_of q) x ≡ 0
    → naming_slots (stepped now t n d' x) q + less ≡ naming_slots t q + more
naming_stepped now t n d d' x slots slots' parent apart there content content' q less more counts none_before none_after =
    let a = naming_edited now t (Changed n d' ∷ x ∷ []) (((λ same. apart same), tt), (tt, tt)) q in
    let b : gained (names_of q) (Changed n d') ≡ count_by (names_file q) slots' = ap (λ c. count_by (names_file q) (slots_of c)) content' in
    let c : named_in t n q ≡ count_by (names_file q) slots = named_in_at t n q d there ∙ ap (λ c. count_by (names_file q) (slots_of c)) content in
    omega (
      arith,
      a,
      b,
      c,
      none_before,
      none_after,
      counts,
      sum_by-cons (λ e. named_in t (number_of e) q) (Changed n d') (x ∷ []),
      sum_by-cons (λ e. named_in t (number_of e) q) x [],
      sum_by-cons (gained (names_of q)) (Changed n d') (x ∷ []),
      sum_by-cons (gained (names_of q)) x [],
    )

module _ (now : Stamp) (t : PlainTree) (n : ℕ) (d d' : File) (x : Edit) (slots slots' : List (Option Entry)) (parent : ℕ) (less more : Bool → ℕ)
    (s : IsStep now t n d d' x slots slots' parent less more) where
  abbrev u : PlainTree
  u = stepped now t n d' x

  abbrev m : ℕ
  m = number_of x

  parent_file : parent_at u m ≡ parent_after now x
  parent_file = parent_there now t n d' x s.apart

  parents_other : (q : ℕ) → q ≢ m → parent_at u q ≡ parent_at t q
  parents_other = parents_elsewhere now t n d d' x slots slots' parent s.apart s.there s.content s.content'

  named_dir : (q : ℕ) → named_in u n q ≡ count_by (names_file q) slots'
  named_dir q = named_in_at u n q (changed_at now d') (get_dir now t n d' x s.apart) ∙ ap (λ c. count_by (names_file q) (slots_of c)) s.content'

  named_before : (q : ℕ) → named_in t n q ≡ count_by (names_file q) slots
  named_before q = named_in_at t n q d s.there ∙ ap (λ c. count_by (names_file q) (slots_of c)) s.content

  -- ---- names

  naming_step : (q : ℕ) → naming_slots u q + less (m == q) ≡ naming_slots t q + more (m == q)
  naming_step q =
      naming_stepped now t n d d' x slots slots' parent s.apart s.there s.content s.content' q (less (m == q)) (more (m == q)) (s.counts q) (s.none_before q) (s.none_after q)

  less_other : (q : ℕ) → q ≢ m → (less (m == q) ≡ 0) × (more (m == q) ≡ 0)
  less_other q apart =
      let e : (m == q) ≡ false = ne_eqb m q (λ same. apart (sym same)) in
      (ap less e ∙ s.nothing.0, ap more e ∙ s.nothing.1)

  naming_other : (q : ℕ) → q ≢ m → naming_slots u q ≡ naming_slots t q
  naming_other q apart = let l = less_other q apart in omega (arith, naming_step q, l.0, l.1)

  due_other : (q : ℕ) → q ≢ m → due u q ≡ due t q
  due_other q apart_m = elim (cases_eq q n) [
    | inl at ↦ ap (due u) at ∙ due_at u n (changed_at now d') (Directory slots' parent) (get_dir now t n d' x s.apart) s.content'
        ∙ sym (due_at t n d (Directory slots parent) s.there s.content) ∙ ap (due t) (sym at)
    | inr apart_n ↦ ap (λ (o : Option File). option_map_or (λ g. due_of q g g.content) o 0) (get_other now t n d' x s.apart q apart_n apart_m)
  ]

  due_file : due u m ≡ due_after now x
  due_file = ap (λ (o : Option File). option_map_or (λ g. due_of m g g.content) o 0) (get_file now t n d' x s.apart)

  named_due : (q : ℕ) → naming_slots u q ≡ due u q
  named_due q = elim (cases_eq q m) [
    | inl at ↦
        let e : (m == m) ≡ true = eq-eqb m m refl in
        let a : less (m == m) ≡ less true = ap less e in
        let b : more (m == m) ≡ more true = ap more e in
        let here : naming_slots u m ≡ due u m = omega (arith, naming_step m, a, b, s.whole.named m, s.dues, due_file) in
        ap (naming_slots u) at ∙ here ∙ ap (due u) (sym at)
    | inr apart ↦ naming_other q apart ∙ s.whole.named q ∙ sym (due_other q apart)
  ]

  -- ---- where names lie

  named_other : (p q : ℕ) → q ≢ m → p ≢ m → named_in u p q ≡ named_in t p q
  named_other p q apart_q apart_p = elim (cases_eq p n) [
    | inl at ↦
        let l = less_other q apart_q in
        let here : named_in u n q ≡ named_in t n q = omega (arith, named_dir q, named_before q, s.counts q, l.0, l.1) in
        ap (λ k. named_in u k q) at ∙ here ∙ ap (λ k. named_in t k q) (sym at)
    | inr apart_n ↦ ap (λ (o : Option File). option_map_or (λ f. count_by (names_file q) (slots_of f.content)) o 0) (get_other now t n d' x s.apart p apart_n apart_p)
  ]

  -- no directory lies in the file of the other edit
  not_inside : (q p : ℕ) → q ≢ 1 → parent_at t q ≡ Some p → p ≢ m
  not_inside q p other is at =
      let a : named_in t p q ≡ 1 = s.whole.inside q p other is in
      let b : named_in t p q ≡ named_in t m q = ap (λ k. named_in t k q) at in
      omega (arith, a, b, s.none_before q)

  inside_step : (q p : ℕ) → q ≢ 1 → parent_at u q ≡ Some p → named_in u p q ≡ 1
  inside_step q p other is = elim (cases_eq q m) [
    | inl at ↦
        let h = s.parent' p (sym parent_file ∙ ap (parent_at u) (sym at) ∙ is) in
        ap (λ k. named_in u k q) h.0 ∙ ap (named_in u n) at ∙ h.1
    | inr apart ↦
        let before = sym (parents_other q apart) ∙ is in
        named_other p q apart (not_inside q p other before) ∙ s.whole.inside q p other before
  ]

  leads_other : (q p : ℕ) → q ≢ m → parent_at t q ≡ Some p → Leads u q
  leads_other q p apart is =
      let l = s.whole.leads q p is in
      leads_kept t u (λ k. k ≢ m) (λ k j kept other at. inl (parents_other k kept ∙ at, not_inside k j other at)) l.0 q apart l.1

  leads_step : (q p : ℕ) → parent_at u q ≡ Some p → Leads u q
  leads_step q p is = elim (cases_eq q m) [
    | inl at ↦
        let h = s.parent' p (sym parent_file ∙ ap (parent_at u) (sym at) ∙ is) in
        leads_more u q p is (subst (Leads u) (sym h.0) (leads_other n parent (λ same. s.apart (sym same)) (parent_is t n parent d slots s.there s.content)))
    | inr apart ↦ leads_other q p apart (sym (parents_other q apart) ∙ is)
  ]

  -- ---- links

  -- what slots of another directory name is a directory as before
  kind_other : (q : ℕ) (f : File) (k : ℕ) → q ≢ n → q ≢ m → table.get t.files q ≡ Some f → 1 ≤ count_by (names_file k) (slots_of f.content)
      → is_some (parent_at u k) ≡ is_some (parent_at t k)
  kind_other q f k apart_n apart_m is pos = elim (cases_eq k m) [
    | inl at ↦ elim s.turned [
      | inl same ↦ ap (λ j. is_some (parent_at u j)) at ∙ ap is_some parent_file ∙ same ∙ ap (λ j. is_some (parent_at t j)) (sym at)
      | inr (inl none) ↦ absurd (let a : naming_slots t k ≡ 0 = ap (naming_slots t) at ∙ none in omega (arith, a, named_in_le t q k, named_in_at t q k f is))
      | inr (inr none) ↦ absurd (
          let a : naming_slots u k ≡ 0 = ap (naming_slots u) at ∙ none in
          omega (arith, a, named_in_le u q k, named_in_at u q k f (get_other now t n d' x s.apart q apart_n apart_m ∙ is)))
    ]
    | inr apart ↦ ap is_some (parents_other k apart)
  ]

  links_other : (q : ℕ) (f : File) (c : Content) → q ≢ n → q ≢ m → table.get t.files q ≡ Some f → f.content ≡ c → HasLinks t f c → HasLinks u f c
  links_other q f (Regular blocks) apart_n apart_m is c_is h = h
  links_other q f (Link blocks) apart_n apart_m is c_is h = h
  links_other q f (Directory r p) apart_n apart_m is c_is h =
      let same : subdirectories u r ≡ subdirectories t r = subdirectories_alike t u r (λ i e there. kind_other q f e.file apart_n apart_m is (
      let a : 1 ≤ count_by (names_file e.file) r = count_has (names_file e.file) r i (Some e) there (eq-eqb e.file e.file refl) in
      let b : count_by (names_file e.file) (slots_of f.content) ≡ count_by (names_file e.file) r = ap (λ c. count_by (names_file e.file) (slots_of c)) c_is in
      omega (arith, a, b))) in
      omega (arith, h, same)

  links_step : (q : ℕ) (f : File) → table.get u.files q ≡ Some f → HasLinks u f f.content
  links_step q f is = elim (cases_eq q n) [
    | inl at ↦
        let e : ◌≡◌ {A = Option File} (Some (changed_at now d')) (Some f) = sym (get_dir now t n d' x s.apart) ∙ ap (table.get u.files) (sym at) ∙ is in
        let f_is : changed_at now d' ≡ f = cc in
        subst (λ g. HasLinks u g g.content) f_is (subst (HasLinks u (changed_at now d')) (sym s.content') s.links)
    | inr apart_n ↦ elim (cases_eq q m) [
      | inl at ↦ s.own_links f (sym (get_file now t n d' x s.apart) ∙ ap (table.get u.files) (sym at) ∙ is)
      | inr apart_m ↦
          let there = sym (get_other now t n d' x s.apart q apart_n apart_m) ∙ is in
          links_other q f f.content apart_n apart_m there refl (s.whole.links q f there)
    ]
  ]

  pub step_shaped : IsShaped u
  step_shaped = record {
    root = parents_other 1 (λ same. s.not_root (sym same)) ∙ s.whole.root;
    named = named_due;
    links = links_step;
    inside = inside_step;
    leads = leads_step;
  }
