-- A RENAME file by file: the directories, the file that is moved, and the one that is replaced.
use Rattle.std.proofs.Common.{◌≡◌, ◌≢◌, ℕ, ◌+◌, Bool, List, Option, Some, None, ◌⊎◌, inl, inr, refl, sym, ap, subst, ◌∙◌, arith}
use Rattle.std.specs.Prelude.{is_some, count_by, option_and_then}
use Rattle.std.specs.Option.{option_map_or}
use Rattle.std.specs.FinMap as table
use Rattle.std.proofs.lemmas.Bool.{cases_eq}
use Rattle.nfs_proto.specs.declared.stamp.Stamp.{Stamp}
use Rattle.fs_rules.specs.declared.content.Content.TheVariants.{Directory}
use Rattle.fs_rules.specs.declared.entry.Entry.{Entry}
use Rattle.fs_rules.specs.declared.file.File.{File}
use Rattle.fs_rules.specs.declared.plain_tree.PlainTree.{PlainTree}
use Rattle.fs_rules.specs.File.{slots_of, parent_of}
use Rattle.fs_rules.specs.Edits.{Edit, changed_at}
use Rattle.fs_rules.specs.Names.{with_parent}
use Rattle.fs_rules.specs.Good.{names_file, naming_slots, parent_at, subdirectories}
use Rattle.fs_laws.proofs.SumLemmas.{one_where}
use Rattle.fs_laws.proofs.WholeLemmas.{named_in, due_of, due, HasLinks, IsWhole, due_at, named_in_at, parent_is}
use Rattle.fs_laws.proofs.DirLemmas.{IsDir}
use Rattle.fs_laws.proofs.LinkLemmas.{file_parent, dir_parent}
use Rattle.fs_laws.proofs.MoveLemmas.{IsAround, IsMoved}
use Rattle.fs_laws.proofs.ReplaceLemmas.{IsSource, source_kind, turned_content, IsReplacing}

-- a directory whose slots are others: it keeps its parent, and names of other files
pub record IsPair (t u : PlainTree) (q s : ℕ) (Replaced : ℕ → Type 0) : Type 0 where
  pub before : File
  pub parent : ℕ
  pub dir : IsDir t q before parent
  pub later : File
  pub slots : List (Option Entry)
  pub there : table.get u.files q ≡ Some later
  pub content : later.content ≡ Directory slots parent
  pub counts : (k : ℕ) → k ≢ s → (Replaced k → ⊥) → count_by (names_file k) slots ≡ count_by (names_file k) (slots_of before.content)
  pub links : later.links ≡ 2 + subdirectories t slots

-- the file with its new parent
abbrev pub turned : Stamp → ℕ → File → File
turned now b f = changed_at now (record f { content = with_parent b f.content })

pub record IsShuffled (now : Stamp) (t u : PlainTree) (a b s : ℕ) (f : File) (Replaced : ℕ → Type 0) (left : Option File) (old : Option Entry) : Type 0 where
  pub whole : IsWhole t
  pub source : IsSource t a s f
  pub get_source : table.get u.files s ≡ Some (turned now b f)
  pub get_replaced : (q : ℕ) → Replaced q → table.get u.files q ≡ left
  pub others : (q : ℕ) → q ≢ s → (Replaced q → ⊥) → (table.get u.files q ≡ table.get t.files q) ⊎ IsPair t u q s Replaced
  pub naming : (q : ℕ) → naming_slots u q + one_where (names_file q old) ≡ naming_slots t q
  pub way : (p : ℕ) → parent_at t s ≡ Some p → (p ≡ b) ⊎ IsAround t b s
  pub once : (p : ℕ) → parent_at t s ≡ Some p → named_in u b s ≡ 1

module _ (now : Stamp) (t u : PlainTree) (a b s : ℕ) (f : File) (slots : List (Option Entry)) (e : Entry) (tail : List Edit) (Replaced : ℕ → Type 0) (left : Option File)
    (old : Option Entry) (directory : Bool) (h : IsShuffled now t u a b s f Replaced left old) (r : IsReplacing now t a b s slots e tail Replaced left old directory) where
  before_at : parent_at t s ≡ parent_of f.content
  before_at = ap (option_and_then (λ (g : File). parent_of g.content)) h.source.there

  later_at : parent_at u s ≡ parent_of (with_parent b f.content)
  later_at = ap (option_and_then (λ (g : File). parent_of g.content)) h.get_source

  parents : (q : ℕ) → q ≢ s → (Replaced q → ⊥) → parent_at u q ≡ parent_at t q
  parents q apart stays = elim (h.others q apart stays) [
    | inl same ↦ ap (option_and_then (λ (g : File). parent_of g.content)) same
    | inr pair ↦ parent_is u q pair.parent pair.later pair.slots pair.there pair.content ∙ sym (dir_parent t q pair.before pair.parent pair.dir)
  ]

  -- a moved directory has the second directory as its parent, and another file has none
  parent_moved : (parent_at u s ≡ parent_at t s) ⊎ ((parent_at u s ≡ Some b) × IsAround t b s)
  parent_moved = elim (source_kind t s f h.source.there) [
    | inl file ↦ let none = file_parent t s f file in inl (later_at ∙ (turned_content b f.content).none (sym before_at ∙ none) ∙ sym none)
    | inr own ↦
        let is = dir_parent t s f own.0 own.1 in
        let new = later_at ∙ (turned_content b f.content).parent own.0 (sym before_at ∙ is) in
        elim (h.way own.0 is) [
          | inl same ↦ inl (new ∙ ap Some (sym same) ∙ sym is)
          | inr around ↦ inr (new, around)
        ]
  ]

  kind_moved : is_some (parent_at u s) ≡ is_some (parent_at t s)
  kind_moved = ap is_some later_at ∙ (turned_content b f.content).kind ∙ sym (ap is_some before_at)

  named_moved : (p : ℕ) → parent_at u s ≡ Some p → named_in u p s ≡ 1
  named_moved p is = elim (source_kind t s f h.source.there) [
    | inl file ↦
        let none : parent_at u s ≡ None = later_at ∙ (turned_content b f.content).none (sym before_at ∙ file_parent t s f file) in
        let e : ◌≡◌ {A = Option ℕ} None (Some p) = sym none ∙ is in
        absurd cc
    | inr own ↦
        let was = dir_parent t s f own.0 own.1 in
        let e : ◌≡◌ {A = Option ℕ} (Some b) (Some p) = sym (later_at ∙ (turned_content b f.content).parent own.0 (sym before_at ∙ was)) ∙ is in
        let same : b ≡ p = cc in
        ap (λ k. named_in u k s) (sym same) ∙ h.once own.0 was
  ]

  due_replaced : (q : ℕ) → Replaced q → due u q ≡ option_map_or (λ (g : File). due_of q g g.content) left 0
  due_replaced q gone = ap (λ (o : Option File). option_map_or (λ g. due_of q g g.content) o 0) (h.get_replaced q gone)

  naming_replaced : (q : ℕ) → Replaced q → naming_slots u q ≡ due u q
  naming_replaced q gone = omega (arith, h.naming q, r.old_here q gone, r.left_due q gone, h.whole.named q, due_replaced q gone)

  dues : (q : ℕ) → (Replaced q → ⊥) → due u q ≡ due t q
  dues q stays = elim (cases_eq q s) [
    | inl at ↦ ap (due u) at ∙ due_at u s (turned now b f) (with_parent b f.content) h.get_source refl
        ∙ (turned_content b f.content).due s f (turned now b f) refl ∙ sym (due_at t s f f.content h.source.there refl) ∙ ap (due t) (sym at)
    | inr apart ↦ elim (h.others q apart stays) [
      | inl same ↦ ap (λ (o : Option File). option_map_or (λ g. due_of q g g.content) o 0) same
      | inr pair ↦ due_at u q pair.later (Directory pair.slots pair.parent) pair.there pair.content
          ∙ sym (due_at t q pair.before (Directory (slots_of pair.before.content) pair.parent) pair.dir.there pair.dir.content)
    ]
  ]

  named_same : (p q : ℕ) → q ≢ s → (Replaced q → ⊥) → (Replaced p → ⊥) → named_in u p q ≡ named_in t p q
  named_same p q apart stays stays_p = elim (cases_eq p s) [
    | inl at ↦ ap (λ k. named_in u k q) at ∙ named_in_at u s q (turned now b f) h.get_source
        ∙ ap (count_by (names_file q)) (turned_content b f.content).slots ∙ sym (named_in_at t s q f h.source.there) ∙ ap (λ k. named_in t k q) (sym at)
    | inr apart_p ↦ elim (h.others p apart_p stays_p) [
      | inl same ↦ ap (λ (o : Option File). option_map_or (λ g. count_by (names_file q) (slots_of g.content)) o 0) same
      | inr pair ↦ named_in_at u p q pair.later pair.there ∙ ap (λ c. count_by (names_file q) (slots_of c)) pair.content ∙ pair.counts q apart stays
          ∙ sym (named_in_at t p q pair.before pair.dir.there)
    ]
  ]

  same_some : (g k : File) → ◌≡◌ {A = Option File} (Some g) (Some k) → g ≡ k
  same_some g k is = cc

  links : (q : ℕ) (g : File) → table.get u.files q ≡ Some g → HasLinks t g g.content
  links q g is = elim (r.is_replaced q) [
    | inl gone ↦ r.left_links g (sym (h.get_replaced q gone) ∙ is)
    | inr stays ↦ elim (cases_eq q s) [
      | inl at ↦
          subst (λ k. HasLinks t k k.content) (same_some (turned now b f) g (sym h.get_source ∙ ap (table.get u.files) (sym at) ∙ is))
          ((turned_content b f.content).links t f (turned now b f) refl (h.whole.links s f h.source.there))
      | inr apart ↦ elim (h.others q apart stays) [
        | inl same ↦ h.whole.links q g (sym same ∙ is)
        | inr pair ↦ subst (λ k. HasLinks t k k.content) (same_some pair.later g (sym pair.there ∙ is)) (subst (HasLinks t pair.later) (sym pair.content) pair.links)
      ]
    ]
  ]

  parent_replaced : (q : ℕ) → Replaced q → parent_at u q ≡ None
  parent_replaced q gone = ap (option_and_then (λ (g : File). parent_of g.content)) (h.get_replaced q gone) ∙ r.left_parent

  pub shuffled_moved : IsMoved t u b s Replaced
  shuffled_moved = record {
    whole = h.whole;
    is_replaced = r.is_replaced;
    not_root = (h.source.not_root, r.not_root);
    other = r.not_source;
    target = r.not_to;
    parents = parents;
    parent_moved = parent_moved;
    kind_moved = kind_moved;
    parent_replaced = parent_replaced;
    naming = λ q stays. omega (arith, h.naming q, r.old_other q stays);
    naming_replaced = naming_replaced;
    dues = dues;
    named_same = named_same;
    named_moved = named_moved;
    none_replaced = r.none;
    turned = λ q gone. elim (r.turned q gone) [
      | inl same ↦ inl (ap is_some (parent_replaced q gone) ∙ same)
      | inr none ↦ inr (naming_replaced q gone ∙ due_replaced q gone ∙ none)
    ];
    links = links;
  }
