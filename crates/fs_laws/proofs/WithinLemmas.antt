-- A RENAME within one directory.
use Rattle.std.proofs.Common.{◌≡◌, ◌≢◌, ℕ, ◌+◌, Bool, cond, List, ◌∷◌, Option, Some, None, ◌⊎◌, inl, inr, refl, sym, ap, subst, ◌∙◌, arith}
use Rattle.std.specs.Prelude.{◌==◌, IsSome, is_some, count_by}
use Rattle.std.specs.FinMap as table
use Rattle.std.proofs.lemmas.Bool.{cases_eq, eq-eqb, ne_eqb}
use Rattle.std.proofs.lemmas.List.Sums.{sum_by-cons}
use Rattle.nfs_proto.specs.declared.stamp.Stamp.{Stamp}
use Rattle.fs_rules.specs.declared.entry.Entry.{Entry}
use Rattle.fs_rules.specs.declared.file.File.{File}
use Rattle.fs_rules.specs.declared.plain_tree.PlainTree.{PlainTree}
use Rattle.fs_rules.specs.File.{slots_of}
use Rattle.fs_rules.specs.Slots.{file_named, put_name, take_name}
use Rattle.fs_rules.specs.Edits.{Edit, Changed, changed_at, edited, limits}
use Rattle.fs_rules.specs.Making.{renamed}
use Rattle.fs_rules.specs.Names.{unlinked, with_parent}
use Rattle.fs_rules.specs.Good.{names_file, names_directory, naming_slots, parent_at, IsGood}
use Rattle.fs_laws.proofs.StatusLemmas.{ArePassed}
use Rattle.fs_laws.proofs.SumLemmas.{one_where}
use Rattle.fs_laws.proofs.WholeLemmas.{named_in, IsOwn, IsWhole, named_in_at, good_from_whole}
use Rattle.fs_laws.proofs.EditLemmas.{number_of, get_edited, gained, names_of, naming_edited, AreApart, within_limits}
use Rattle.fs_laws.proofs.ShapeLemmas.{whole_edited}
use Rattle.fs_laws.proofs.SlotLemmas.{IsThere, there_from_file, IsTaken, taken}
use Rattle.fs_laws.proofs.DirLemmas.{IsDir, dir_links, IsRenamed, renamed_dir, renamed_own, roomy}
use Rattle.fs_laws.proofs.LinkLemmas.{file_parent, dir_due}
use Rattle.fs_laws.proofs.MoveLemmas.{moved_shaped}
use Rattle.fs_laws.proofs.ReplaceLemmas.{IsSource, source_apart, source_kind, parent_named, turned_content, IsReplacing}
use Rattle.fs_laws.proofs.ShuffleLemmas.{IsPair, turned, IsShuffled, shuffled_moved}

-- a moved file stays in order in itself
pub source_own : (b : ℕ) (f : File) → IsOwn f → IsOwn (record f { content = with_parent b f.content })
source_own b f own = record {
  mode = own.mode;
  links = own.links;
  content = (turned_content b f.content).own f (record f { content = with_parent b f.content }) refl refl own.content;
}

-- in the directory b, which is d, the file s goes from a name to that of the entry e
pub record IsWithinDir (now : Stamp) (t : PlainTree) (b : ℕ) (d : File) (parent s : ℕ) (f : File) (name : List ℕ) (e : Entry) (tail : List Edit) (Replaced : ℕ → Type 0)
    (left : Option File) (old : Option Entry) (directory : Bool) : Type 0 where
  pub whole : IsWhole t
  pub dir : IsDir t b d parent
  pub source : IsSource t b s f
  pub from : file_named (slots_of d.content) name ≡ Some s
  pub apart : name ≢ e.name
  pub file : e.file ≡ s
  pub replacing : IsReplacing now t b b s (slots_of d.content) e tail Replaced left old directory

module _ (now : Stamp) (t : PlainTree) (b : ℕ) (d : File) (parent s : ℕ) (f : File) (name : List ℕ) (e : Entry) (tail : List Edit) (Replaced : ℕ → Type 0) (left : Option File)
    (old : Option Entry) (directory : Bool) (h : IsWithinDir now t b d parent s f name e tail Replaced left old directory) where
  abbrev put : List (Option Entry)
  put = put_name (slots_of d.content) e

  abbrev new : List (Option Entry)
  new = take_name (put_name (slots_of d.content) e) name

  abbrev d' : File
  d' = unlinked (one_where directory) (renamed now (take_name (put_name (slots_of d.content) e) name) d)

  abbrev es : List Edit
  es = Changed b (unlinked (one_where directory) (renamed now (take_name (put_name (slots_of d.content) e) name) d)) ∷ Changed s (record f { content = with_parent b f.content }) ∷ tail

  abbrev u : PlainTree
  u = edited now t (Changed b (unlinked (one_where directory) (renamed now (take_name (put_name (slots_of d.content) e) name) d)) ∷ Changed s (record f { content = with_parent b f.content }) ∷ tail)

  apart_dir : s ≢ b
  apart_dir = source_apart t b s f d parent h.whole h.source h.dir

  still : (k : IsThere put name) × (k.entry.file ≡ s)
  still = there_from_file put name s (h.replacing.put.others name h.apart ∙ h.from)

  take : IsTaken put still.0.entry new
  take = taken put name h.replacing.put.names still.0

  same_file : still.0.entry.file ≡ e.file
  same_file = still.1 ∙ sym h.file

  -- ---- counts

  count_file : (q : ℕ) → count_by (names_file q) new + one_where (names_file q old) ≡ count_by (names_file q) (slots_of d.content)
  count_file q =
      let a : one_where (still.0.entry.file == q) ≡ one_where (e.file == q) = ap (λ k. one_where (k == q)) same_file in
      omega (arith, a, take.counts (names_file q) refl, h.replacing.put.counts (names_file q) refl)

  count_kind : count_by (names_directory t) new + one_where directory ≡ count_by (names_directory t) (slots_of d.content)
  count_kind =
      let a : one_where (is_some (parent_at t still.0.entry.file)) ≡ one_where (is_some (parent_at t e.file)) = ap (λ k. one_where (is_some (parent_at t k))) same_file in
      omega (arith, a, take.counts (names_directory t) refl, h.replacing.put.counts (names_directory t) refl, h.replacing.old_kind)

  -- ---- files

  get_source : table.get u.files s ≡ Some (turned now b f)
  get_source =
      get_edited now t es s
      ∙ h.replacing.tail'.keeps s (cond (s == s) (Some (turned now b f)) (cond (s == b) (Some (changed_at now d')) (table.get t.files s))) h.replacing.not_source
      ∙ ap (λ c. cond c (Some (turned now b f)) (cond (s == b) (Some (changed_at now d')) (table.get t.files s))) (eq-eqb s s refl)

  get_dir : table.get u.files b ≡ Some (changed_at now d')
  get_dir =
      get_edited now t es b
      ∙ h.replacing.tail'.keeps b (cond (b == s) (Some (turned now b f)) (cond (b == b) (Some (changed_at now d')) (table.get t.files b))) h.replacing.not_to
      ∙ ap (λ c. cond c (Some (turned now b f)) (cond (b == b) (Some (changed_at now d')) (table.get t.files b))) (ne_eqb b s (λ same. apart_dir (sym same)))
      ∙ ap (λ c. cond c (Some (changed_at now d')) (table.get t.files b)) (eq-eqb b b refl)

  get_other : (q : ℕ) → q ≢ s → q ≢ b → (Replaced q → ⊥) → table.get u.files q ≡ table.get t.files q
  get_other q apart_s apart_b stays =
      get_edited now t es q
      ∙ h.replacing.tail'.keeps q (cond (q == s) (Some (turned now b f)) (cond (q == b) (Some (changed_at now d')) (table.get t.files q))) stays
      ∙ ap (λ c. cond c (Some (turned now b f)) (cond (q == b) (Some (changed_at now d')) (table.get t.files q))) (ne_eqb q s apart_s)
      ∙ ap (λ c. cond c (Some (changed_at now d')) (table.get t.files q)) (ne_eqb q b apart_b)

  get_replaced : (q : ℕ) → Replaced q → table.get u.files q ≡ left
  get_replaced q gone =
      get_edited now t es q ∙ h.replacing.tail'.leaves q (cond (q == s) (Some (turned now b f)) (cond (q == b) (Some (changed_at now d')) (table.get t.files q))) gone

  renamed_dir' : IsRenamed d d' new parent
  renamed_dir' = let r = renamed_dir now new d parent h.dir.content in record { content = r.content; mode = r.mode; size = r.size }

  pair : IsPair t u b s Replaced
  pair = record {
    before = d;
    parent = parent;
    dir = h.dir;
    later = changed_at now d';
    slots = new;
    there = get_dir;
    content = renamed_dir'.content;
    counts = λ k apart stays. omega (arith, count_file k, h.replacing.old_other k stays);
    links = omega (arith, count_kind, dir_links t b d parent h.whole h.dir);
  }

  others : (q : ℕ) → q ≢ s → (Replaced q → ⊥) → (table.get u.files q ≡ table.get t.files q) ⊎ IsPair t u q s Replaced
  others q apart stays = elim (cases_eq q b) [
    | inl at ↦ inr (subst (λ k. IsPair t u k s Replaced) (sym at) pair)
    | inr apart_b ↦ inl (get_other q apart apart_b stays)
  ]

  are_apart : AreApart es
  are_apart = ((apart_dir, h.replacing.tail'.apart b h.replacing.not_to), (h.replacing.tail'.apart s h.replacing.not_source, h.replacing.tail'.apart_self))

  naming : (q : ℕ) → naming_slots u q + one_where (names_file q old) ≡ naming_slots t q
  naming q =
      let a = naming_edited now t es are_apart q in
      let b' : gained (names_of q) (Changed b d') ≡ count_by (names_file q) new = ap (λ c. count_by (names_file q) (slots_of c)) renamed_dir'.content in
      let c : gained (names_of q) (Changed s (record f { content = with_parent b f.content })) ≡ named_in t s q =
      ap (count_by (names_file q)) (turned_content b f.content).slots ∙ sym (named_in_at t s q f h.source.there) in
      omega (
        arith,
        a,
        b',
        c,
        count_file q,
        named_in_at t b q d h.dir.there,
        h.replacing.tail'.lost q,
        h.replacing.tail'.gained' q,
        sum_by-cons (λ e. named_in t (number_of e) q) (Changed b d') (Changed s (record f { content = with_parent b f.content }) ∷ tail),
        sum_by-cons (λ e. named_in t (number_of e) q) (Changed s (record f { content = with_parent b f.content })) tail,
        sum_by-cons (gained (names_of q)) (Changed b d') (Changed s (record f { content = with_parent b f.content }) ∷ tail),
        sum_by-cons (gained (names_of q)) (Changed s (record f { content = with_parent b f.content })) tail,
      )

  -- the directory of a moved directory is this one
  lies_here : (p : ℕ) → parent_at t s ≡ Some p → p ≡ b
  lies_here p is = elim (source_kind t s f h.source.there) [
    | inl file ↦ let e : ◌≡◌ {A = Option ℕ} None (Some p) = sym (file_parent t s f file) ∙ is in absurd cc
    | inr own ↦ parent_named t b s p h.whole h.source.not_root is h.source.named (dir_due t s f own.0 own.1 h.source.not_root)
  ]

  once : (p : ℕ) → parent_at t s ≡ Some p → named_in u b s ≡ 1
  once p is =
      let a : named_in t b s ≡ 1 = subst (λ k. named_in t k s ≡ 1) (lies_here p is) (h.whole.inside s p h.source.not_root is) in
      let c : named_in u b s ≡ count_by (names_file s) new = named_in_at u b s (changed_at now d') get_dir ∙ ap (λ c. count_by (names_file s) (slots_of c)) renamed_dir'.content in
      omega (arith, a, c, count_file s, h.replacing.old_other s h.replacing.not_source, named_in_at t b s d h.dir.there)

  shuffled : IsShuffled now t u b b s f Replaced left old
  shuffled = record {
    whole = h.whole;
    source = h.source;
    get_source = get_source;
    get_replaced = get_replaced;
    others = others;
    naming = naming;
    way = λ p is. inl (lies_here p is);
    once = once;
  }

  -- a RENAME within a directory, within the limits, leaves a file system
  pub within_good : (start : ℕ) → ArePassed (limits t start es) → IsGood u
  within_good start passed =
      let w = within_limits t start es passed in
      let room = roomy t start b d' (Changed s (record f { content = with_parent b f.content }) ∷ tail) w in
      let own = renamed_own d d' new parent (h.whole.own b d h.dir.there) renamed_dir' take.names room.links room.slots in
      good_from_whole u (whole_edited now t start es h.whole are_apart
      ((subst IsSome (sym h.dir.there) refl, own), ((subst IsSome (sym h.source.there) refl, source_own b f (h.whole.own s f h.source.there)), h.replacing.tail'.apt))
      w (moved_shaped t u b s Replaced (shuffled_moved now t u b b s f (slots_of d.content) e tail Replaced left old directory shuffled h.replacing)))
