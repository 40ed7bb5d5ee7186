-- A file loses a name.
use Rattle.std.proofs.Common.{◌≡◌, ◌≢◌, ℕ, ◌+◌, ◌≤◌, List, [], ◌∷◌, Option, Some, None, ◌⊎◌, inl, inr, refl, sym, ap, subst, ◌∙◌, arith}
use Rattle.std.specs.Prelude.{◌==◌, IsSome, is_some, slice_get, count_by}
use Rattle.std.proofs.lemmas.Bool.{cases_eq, eq-eqb}
use Rattle.nfs_proto.specs.declared.stamp.Stamp.{Stamp}
use Rattle.fs_rules.specs.declared.entry.Entry.{Entry}
use Rattle.fs_rules.specs.declared.file.File.{File}
use Rattle.fs_rules.specs.declared.plain_tree.PlainTree.{PlainTree}
use Rattle.fs_rules.specs.File.{slots_of}
use Rattle.fs_rules.specs.Slots.{take_name}
use Rattle.fs_rules.specs.Edits.{Edit, Changed, changed_at, edited, limits}
use Rattle.fs_rules.specs.Good.{names_file, names_directory, naming_slots, parent_at, subdirectories, IsGood}
use Rattle.fs_laws.proofs.StatusLemmas.{ArePassed}
use Rattle.fs_laws.proofs.SumLemmas.{one_where, count_has}
use Rattle.fs_laws.proofs.WholeLemmas.{named_in, due, HasLinks, IsWhole, named_in_at, named_in_le, good_from_whole}
use Rattle.fs_laws.proofs.EditLemmas.{number_of, after, gained, names_of, IsApt, within_limits}
use Rattle.fs_laws.proofs.ShapeLemmas.{subdirectories_alike, whole_edited}
use Rattle.fs_laws.proofs.SlotLemmas.{IsThere, IsTaken, taken}
use Rattle.fs_laws.proofs.StepLemmas.{parent_after, due_after, stepped, IsStep, get_dir, parents_elsewhere, parent_there, naming_stepped, step_shaped}
use Rattle.fs_laws.proofs.DirLemmas.{IsDir, dir_names, dir_links, IsRenamed, renamed_own, roomy}

-- the directory n, which is d, becomes d' without a name, of the file of another edit
pub record IsTakeStep (now : Stamp) (t : PlainTree) (n : ℕ) (d d' : File) (x : Edit) (name : List ℕ) (parent : ℕ) : Type 0 where
  pub whole : IsWhole t
  pub dir : IsDir t n d parent
  pub here : IsThere (slots_of d.content) name
  pub file : here.entry.file ≡ number_of x
  pub renamed : IsRenamed d d' (take_name (slots_of d.content) name) parent
  pub links : d'.links + one_where (is_some (parent_at t (number_of x))) ≡ d.links
  pub apart : number_of x ≢ n
  pub not_root : number_of x ≢ 1
  pub apt : IsApt t x
  pub none_before : (q : ℕ) → named_in t (number_of x) q ≡ 0
  pub none_after : (q : ℕ) → gained (names_of q) x ≡ 0
  pub dues : due_after now x + 1 ≡ due t (number_of x)
  pub turned : (is_some (parent_after now x) ≡ is_some (parent_at t (number_of x))) ⊎ (due_after now x ≡ 0)
  pub own_links : (u : PlainTree) (f : File) → after now x ≡ Some f → HasLinks u f f.content
  pub parent' : parent_after now x ≡ None

module _ (now : Stamp) (t : PlainTree) (n : ℕ) (d d' : File) (x : Edit) (name : List ℕ) (parent : ℕ) (s : IsTakeStep now t n d d' x name parent) where
  abbrev u : PlainTree
  u = stepped now t n d' x

  abbrev m : ℕ
  m = number_of x

  abbrev old : List (Option Entry)
  old = slots_of d.content

  abbrev new : List (Option Entry)
  new = take_name (slots_of d.content) name

  take : IsTaken old s.here.entry new
  take = taken old name (dir_names t n d parent s.whole s.dir) s.here

  count_file : (q : ℕ) → count_by (names_file q) new + one_where (m == q) ≡ count_by (names_file q) old + 0
  count_file q =
      let a : one_where (s.here.entry.file == q) ≡ one_where (m == q) = ap (λ k. one_where (k == q)) s.file in
      omega (arith, take.counts (names_file q) refl, a)

  -- no name is left of a file of which none is due
  none_left : due_after now x ≡ 0 → naming_slots u m ≡ 0
  none_left none =
      let a = naming_stepped now t n d d' x old new parent s.apart s.dir.there s.dir.content s.renamed.content m (one_where (m == m)) 0 (count_file m) (s.none_before m) (s.none_after m) in
      let b : one_where (m == m) ≡ 1 = ap one_where (eq-eqb m m refl) in
      let c = s.dues in
      omega (arith, a, b, c, none, s.whole.named m)

  -- what the new slots name is a directory as before
  kind_new : (i : ℕ) (c : Entry) → slice_get new i ≡ Some (Some c) → is_some (parent_at u c.file) ≡ is_some (parent_at t c.file)
  kind_new i c there = elim (cases_eq c.file m) [
    | inl at ↦ elim s.turned [
      | inl same ↦ ap (λ k. is_some (parent_at u k)) at ∙ ap is_some (parent_there now t n d' x s.apart) ∙ same ∙ ap (λ k. is_some (parent_at t k)) (sym at)
      | inr none ↦ absurd (
          let a : 1 ≤ count_by (names_file c.file) new = count_has (names_file c.file) new i (Some c) there (eq-eqb c.file c.file refl) in
          let b : naming_slots u c.file ≡ 0 = ap (naming_slots u) at ∙ none_left none in
          let e : named_in u n c.file ≡ count_by (names_file c.file) new =
          named_in_at u n c.file (changed_at now d') (get_dir now t n d' x s.apart) ∙ ap (λ c'. count_by (names_file c.file) (slots_of c')) s.renamed.content in
          omega (arith, a, b, e, named_in_le u n c.file))
    ]
    | inr other ↦ ap is_some (parents_elsewhere now t n d d' x old new parent s.apart s.dir.there s.dir.content s.renamed.content c.file other)
  ]

  links_take : d'.links ≡ 2 + subdirectories u new
  links_take =
      let a : count_by (names_directory t) new + one_where (is_some (parent_at t s.here.entry.file)) ≡ count_by (names_directory t) old = take.counts (names_directory t) refl in
      let b : one_where (is_some (parent_at t s.here.entry.file)) ≡ one_where (is_some (parent_at t m)) = ap (λ k. one_where (is_some (parent_at t k))) s.file in
      let c : subdirectories u new ≡ subdirectories t new = subdirectories_alike t u new kind_new in
      omega (arith, a, b, c, s.links, dir_links t n d parent s.whole s.dir)

  take_step : IsStep now t n d d' x old new parent one_where (λ b. 0)
  take_step = record {
    whole = s.whole;
    there = s.dir.there;
    content = s.dir.content;
    content' = s.renamed.content;
    apart = s.apart;
    not_root = s.not_root;
    nothing = (refl, refl);
    counts = count_file;
    none_before = s.none_before;
    none_after = s.none_after;
    dues = let h = s.dues in omega (arith, h);
    links = links_take;
    turned = elim s.turned [ inl same ↦ inl same | inr none ↦ inr (inr (none_left none)) ];
    own_links = s.own_links u;
    parent' = λ k is. let e : ◌≡◌ {A = Option ℕ} None (Some k) = sym s.parent' ∙ is in absurd cc;
  }

  -- a name that is taken, within the limits, leaves a file system
  pub take_good : (start : ℕ) → ArePassed (limits t start (Changed n d' ∷ x ∷ [])) → IsGood (edited now t (Changed n d' ∷ x ∷ []))
  take_good start passed =
      let within = within_limits t start (Changed n d' ∷ x ∷ []) passed in
      let room = roomy t start n d' (x ∷ []) within in
      let own = renamed_own d d' new parent (s.whole.own n d s.dir.there) s.renamed take.names room.links room.slots in
      good_from_whole u (whole_edited now t start (Changed n d' ∷ x ∷ []) s.whole ((s.apart, tt), (tt, tt)) ((subst IsSome (sym s.dir.there) refl, own), (s.apt, tt)) within
      (step_shaped now t n d d' x old new parent one_where (λ b. 0) take_step))
