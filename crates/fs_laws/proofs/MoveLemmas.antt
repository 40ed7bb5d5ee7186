-- A file is moved from one name to another: the names of the tree stay in order.
use Rattle.std.proofs.Common.{◌≡◌, ◌≢◌, ℕ, zero, suc, ◌≤◌, true, false, List, Option, Some, None, ◌⊎◌, inl, inr, refl, sym, ap, subst, ◌∙◌, arith}
use Rattle.std.specs.Prelude.{is_some, sum_by, count_by, option_and_then}
use Rattle.std.specs.List.{AllByRecursion}
use Rattle.std.specs.FinMap as table
use Rattle.std.proofs.lemmas.Bool.{cases_eq, eq-eqb}
use Rattle.nfs_proto.specs.declared.stamp.Stamp.{Stamp}
use Rattle.fs_rules.specs.declared.content.Content.{Content}
use Rattle.fs_rules.specs.declared.content.Content.TheVariants.{Regular, Link, Directory}
use Rattle.fs_rules.specs.declared.file.File.{File}
use Rattle.fs_rules.specs.declared.plain_tree.PlainTree.{PlainTree}
use Rattle.fs_rules.specs.File.{slots_of}
use Rattle.fs_rules.specs.Edits.{Edit}
use Rattle.fs_rules.specs.Good.{names_file, naming_slots, parent_at, subdirectories, ancestor}
use Rattle.fs_laws.proofs.SumLemmas.{count_has}
use Rattle.fs_laws.proofs.WholeLemmas.{named_in, due, HasLinks, Leads, IsWhole, named_in_at, named_in_le}
use Rattle.fs_laws.proofs.EditLemmas.{number_of, there_after, gained, names_of, AreApart, IsApt}
use Rattle.fs_laws.proofs.ShapeLemmas.{IsShaped, subdirectories_alike}
use Rattle.fs_laws.proofs.StepLemmas.{leads_more, leads_none, leads_kept, first_step, no_step}

-- the way from a directory to the root does not pass a file
pub record IsAround (t : PlainTree) (b s : ℕ) : Type 0 where
  pub moves : ℕ
  pub root : ancestor t moves b ≡ Some 1
  pub never : (k : ℕ) → k ≤ moves → ancestor t k b ≢ Some s

-- the file s was moved to the directory b; one that it replaced, if there was one, lost a name, and was freed where that was
-- its last
pub record IsMoved (t u : PlainTree) (b s : ℕ) (Replaced : ℕ → Type 0) : Type 0 where
  pub whole : IsWhole t
  pub is_replaced : (q : ℕ) → Replaced q ⊎ (Replaced q → ⊥)
  pub not_root : (s ≢ 1) × (Replaced 1 → ⊥)
  pub other : Replaced s → ⊥
  pub target : Replaced b → ⊥
  pub parents : (q : ℕ) → q ≢ s → (Replaced q → ⊥) → parent_at u q ≡ parent_at t q
  pub parent_moved : (parent_at u s ≡ parent_at t s) ⊎ ((parent_at u s ≡ Some b) × IsAround t b s)
  pub kind_moved : is_some (parent_at u s) ≡ is_some (parent_at t s)
  pub parent_replaced : (q : ℕ) → Replaced q → parent_at u q ≡ None
  pub naming : (q : ℕ) → (Replaced q → ⊥) → naming_slots u q ≡ naming_slots t q
  pub naming_replaced : (q : ℕ) → Replaced q → naming_slots u q ≡ due u q
  pub dues : (q : ℕ) → (Replaced q → ⊥) → due u q ≡ due t q
  pub named_same : (p q : ℕ) → q ≢ s → (Replaced q → ⊥) → (Replaced p → ⊥) → named_in u p q ≡ named_in t p q
  pub named_moved : (p : ℕ) → parent_at u s ≡ Some p → named_in u p s ≡ 1
  pub none_replaced : (p q : ℕ) → Replaced p → named_in t p q ≡ 0
  pub turned : (q : ℕ) → Replaced q → (is_some (parent_at u q) ≡ is_some (parent_at t q)) ⊎ (naming_slots u q ≡ 0)
  pub links : (q : ℕ) (f : File) → table.get u.files q ≡ Some f → HasLinks t f f.content

-- the rest of a way that does not pass a file
around_rest : (t : PlainTree) (q p s k : ℕ) → parent_at t q ≡ Some p → ancestor t (suc k) q ≢ Some s → ancestor t k p ≢ Some s
unfolding ancestor
around_rest t q p s k is never same = never (ap (option_and_then (ancestor t k)) is ∙ same)

pub around_here : (t : PlainTree) (q s : ℕ) → ancestor t zero q ≢ Some s → q ≢ s
unfolding ancestor
around_here t q s never same = never (ap Some same)

module _ (t u : PlainTree) (b s : ℕ) (Replaced : ℕ → Type 0) (m : IsMoved t u b s Replaced) where
  not_inside : (q p : ℕ) → q ≢ 1 → parent_at t q ≡ Some p → Replaced p → ⊥
  not_inside q p other is gone = let a = m.whole.inside q p other is in omega (arith, a, m.none_replaced p q gone)

  -- names lie in their directories
  inside_moved : (q p : ℕ) → q ≢ 1 → parent_at u q ≡ Some p → named_in u p q ≡ 1
  inside_moved q p other is = elim (m.is_replaced q) [
    | inl gone ↦ let e : ◌≡◌ {A = Option ℕ} None (Some p) = sym (m.parent_replaced q gone) ∙ is in absurd cc
    | inr stays ↦ elim (cases_eq q s) [
      | inl at ↦ ap (named_in u p) at ∙ m.named_moved p (ap (parent_at u) (sym at) ∙ is)
      | inr apart ↦
          let before = sym (m.parents q apart stays) ∙ is in
          m.named_same p q apart stays (not_inside q p other before) ∙ m.whole.inside q p other before
    ]
  ]

  -- a way that passes neither the moved file nor the replaced one is there still
  leads_around : (moves q : ℕ) → (Replaced q → ⊥) → ((k : ℕ) → k ≤ moves → ancestor t k q ≢ Some s) → ancestor t moves q ≡ Some 1 → Leads u q
  leads_around zero q stays never h = subst (Leads u) (sym (no_step t q h)) (leads_none u)
  leads_around (suc moves) q stays never h = elim (cases_eq q 1) [
    | inl root ↦ subst (Leads u) (sym root) (leads_none u)
    | inr other ↦
        let f = first_step t moves q h in
        let apart : q ≢ s = around_here t q s (never 0 (omega arith)) in
        leads_more u q f.parent (m.parents q apart stays ∙ f.is)
        (leads_around moves f.parent (not_inside q f.parent other f.is) (λ k le. around_rest t q f.parent s k f.is (never (suc k) (omega arith))) f.rest)
  ]

  leads_moved : (q p : ℕ) → parent_at u q ≡ Some p → Leads u q
  leads_moved q p is = elim (m.is_replaced q) [
    | inl gone ↦ let e : ◌≡◌ {A = Option ℕ} None (Some p) = sym (m.parent_replaced q gone) ∙ is in absurd cc
    | inr stays ↦ from (parent_at t q) refl stays
  ] where
    step : (k j : ℕ) → (Replaced k → ⊥) → k ≢ 1 → parent_at t k ≡ Some j → ((parent_at u k ≡ Some j) × (Replaced j → ⊥)) ⊎ Leads u k
    step k j stays other at = elim (cases_eq k s) [
      | inl here ↦ elim m.parent_moved [
        | inl same ↦ inl (ap (parent_at u) here ∙ same ∙ ap (parent_at t) (sym here) ∙ at, not_inside k j other at)
        | inr new ↦ inr (leads_more u k b (ap (parent_at u) here ∙ new.0) (leads_around new.1.moves b m.target new.1.never new.1.root))
      ]
      | inr apart ↦ inl (m.parents k apart stays ∙ at, not_inside k j other at)
    ]

    kind : (Replaced q → ⊥) → is_some (parent_at u q) ≡ is_some (parent_at t q)
    kind stays = elim (cases_eq q s) [
      | inl at ↦ ap (λ k. is_some (parent_at u k)) at ∙ m.kind_moved ∙ ap (λ k. is_some (parent_at t k)) (sym at)
      | inr apart ↦ ap is_some (m.parents q apart stays)
    ]

    from : (o : Option ℕ) → parent_at t q ≡ o → (Replaced q → ⊥) → Leads u q
    from None none stays = absurd (let e : true ≡ false = sym (ap is_some is) ∙ kind stays ∙ ap is_some none in cc)
    from (Some j) at stays = let l = m.whole.leads q j at in leads_kept t u (λ k. Replaced k → ⊥) step l.0 q stays l.1

  named_due : (q : ℕ) → naming_slots u q ≡ due u q
  named_due q = elim (m.is_replaced q) [
    | inl gone ↦ m.naming_replaced q gone
    | inr stays ↦ m.naming q stays ∙ m.whole.named q ∙ sym (m.dues q stays)
  ]

  -- what is named is a directory as before
  kind_named : (k : ℕ) → 1 ≤ naming_slots u k → is_some (parent_at u k) ≡ is_some (parent_at t k)
  kind_named k pos = elim (m.is_replaced k) [
    | inl gone ↦ elim (m.turned k gone) [ inl same ↦ same | inr none ↦ absurd (omega (arith, none)) ]
    | inr stays ↦ elim (cases_eq k s) [
      | inl at ↦ ap (λ j. is_some (parent_at u j)) at ∙ m.kind_moved ∙ ap (λ j. is_some (parent_at t j)) (sym at)
      | inr apart ↦ ap is_some (m.parents k apart stays)
    ]
  ]

  links_moved : (q : ℕ) (f : File) (c : Content) → table.get u.files q ≡ Some f → f.content ≡ c → HasLinks t f c → HasLinks u f c
  links_moved q f (Regular blocks) is c_is h = tt
  links_moved q f (Link blocks) is c_is h = tt
  links_moved q f (Directory slots p) is c_is h =
      let same : subdirectories u slots ≡ subdirectories t slots = subdirectories_alike t u slots (λ i e there. kind_named e.file (
      let a : 1 ≤ count_by (names_file e.file) slots = count_has (names_file e.file) slots i (Some e) there (eq-eqb e.file e.file refl) in
      let b : named_in u q e.file ≡ count_by (names_file e.file) slots = named_in_at u q e.file f is ∙ ap (λ c. count_by (names_file e.file) (slots_of c)) c_is in
      omega (arith, a, b, named_in_le u q e.file))) in
      omega (arith, h, same)

  pub moved_shaped : IsShaped u
  moved_shaped = record {
    root = m.parents 1 (λ same. m.not_root.0 (sym same)) m.not_root.1 ∙ m.whole.root;
    named = named_due;
    links = λ q f is. links_moved q f f.content is refl (m.links q f is);
    inside = inside_moved;
    leads = leads_moved;
  }

-- ---- what becomes of a file that is replaced

-- the edits of a replaced file, if there is one: what they leave of it
pub record IsTail (now : Stamp) (t : PlainTree) (tail : List Edit) (Replaced : ℕ → Type 0) (left : Option File) : Type 0 where
  pub keeps : (q : ℕ) (before : Option File) → (Replaced q → ⊥) → there_after now tail q before ≡ before
  pub leaves : (q : ℕ) (before : Option File) → Replaced q → there_after now tail q before ≡ left
  pub lost : (q : ℕ) → sum_by (λ e. named_in t (number_of e) q) tail ≡ 0
  pub gained' : (q : ℕ) → sum_by (gained (names_of q)) tail ≡ 0
  pub apart : (k : ℕ) → (Replaced k → ⊥) → AllByRecursion (λ d. number_of d ≢ k) tail
  pub apart_self : AreApart tail
  pub apt : AllByRecursion (IsApt t) tail
