-- A file gets a new name.
use Rattle.std.proofs.Common.{◌≡◌, ◌≢◌, ℕ, ◌+◌, ◌≤◌, List, [], ◌∷◌, Option, Some, None, ◌⊎◌, inl, inr, refl, sym, ap, subst, ◌∙◌, arith}
use Rattle.std.specs.Prelude.{◌==◌, IsSome, is_some, slice_get, count_by}
use Rattle.std.proofs.lemmas.Bool.{cases_eq, eq-eqb}
use Rattle.nfs_proto.specs.declared.stamp.Stamp.{Stamp}
use Rattle.fs_rules.specs.declared.entry.Entry.{Entry}
use Rattle.fs_rules.specs.declared.file.File.{File}
use Rattle.fs_rules.specs.declared.plain_tree.PlainTree.{PlainTree}
use Rattle.fs_rules.specs.File.{slots_of}
use Rattle.fs_rules.specs.Slots.{put_name}
use Rattle.fs_rules.specs.Edits.{Edit, Changed, changed_at, edited, limits}
use Rattle.fs_rules.specs.Good.{IsName, names_file, names_directory, naming_slots, parent_at, subdirectories, IsGood}
use Rattle.fs_laws.proofs.StatusLemmas.{ArePassed}
use Rattle.fs_laws.proofs.SumLemmas.{one_where, count_has}
use Rattle.fs_laws.proofs.WholeLemmas.{named_in, due, HasLinks, IsWhole, named_in_at, named_in_le, good_from_whole}
use Rattle.fs_laws.proofs.EditLemmas.{number_of, after, gained, names_of, IsApt, within_limits}
use Rattle.fs_laws.proofs.ShapeLemmas.{subdirectories_alike, whole_edited}
use Rattle.fs_laws.proofs.SlotLemmas.{IsAbsent, IsPut, put_new}
use Rattle.fs_laws.proofs.StepLemmas.{parent_after, due_after, stepped, IsStep, get_dir, parent_there, parents_elsewhere, step_shaped}
use Rattle.fs_laws.proofs.DirLemmas.{IsDir, dir_names, dir_links, IsRenamed, renamed_own, roomy}

-- the directory n, which is d, becomes d' with a name more, of the file of another edit
pub record IsPutStep (now : Stamp) (t : PlainTree) (n : ℕ) (d d' : File) (x : Edit) (e : Entry) (parent : ℕ) : Type 0 where
  pub whole : IsWhole t
  pub dir : IsDir t n d parent
  pub name : IsName e.name
  pub absent : IsAbsent (slots_of d.content) e.name
  pub file : e.file ≡ number_of x
  pub renamed : IsRenamed d d' (put_name (slots_of d.content) e) parent
  pub links : d'.links ≡ d.links + one_where (is_some (parent_after now x))
  pub apart : number_of x ≢ n
  pub not_root : number_of x ≢ 1
  pub apt : IsApt t x
  pub none_before : (q : ℕ) → named_in t (number_of x) q ≡ 0
  pub none_after : (q : ℕ) → gained (names_of q) x ≡ 0
  pub dues : due_after now x ≡ due t (number_of x) + 1
  pub turned : (is_some (parent_after now x) ≡ is_some (parent_at t (number_of x))) ⊎ (naming_slots t (number_of x) ≡ 0)
  pub own_links : (u : PlainTree) (f : File) → after now x ≡ Some f → HasLinks u f f.content
  pub parent' : (k : ℕ) → parent_after now x ≡ Some k → (k ≡ n) × (naming_slots t (number_of x) ≡ 0)

module _ (now : Stamp) (t : PlainTree) (n : ℕ) (d d' : File) (x : Edit) (e : Entry) (parent : ℕ) (s : IsPutStep now t n d d' x e parent) where
  abbrev u : PlainTree
  u = stepped now t n d' x

  abbrev m : ℕ
  m = number_of x

  abbrev old : List (Option Entry)
  old = slots_of d.content

  abbrev new : List (Option Entry)
  new = put_name (slots_of d.content) e

  put : IsPut old e None new
  put = put_new old e (dir_names t n d parent s.whole s.dir) s.name s.absent

  count_file : (q : ℕ) → count_by (names_file q) new + 0 ≡ count_by (names_file q) old + one_where (m == q)
  count_file q =
      let a : one_where (e.file == q) ≡ one_where (m == q) = ap (λ k. one_where (k == q)) s.file in
      omega (arith, put.counts (names_file q) refl, a)

  -- what the old slots name is a directory as before
  kind_old : (i : ℕ) (c : Entry) → slice_get old i ≡ Some (Some c) → is_some (parent_at u c.file) ≡ is_some (parent_at t c.file)
  kind_old i c there = elim (cases_eq c.file m) [
    | inl at ↦ elim s.turned [
      | inl same ↦ ap (λ k. is_some (parent_at u k)) at ∙ ap is_some (parent_there now t n d' x s.apart) ∙ same ∙ ap (λ k. is_some (parent_at t k)) (sym at)
      | inr none ↦ absurd (
          let a : 1 ≤ count_by (names_file c.file) old = count_has (names_file c.file) old i (Some c) there (eq-eqb c.file c.file refl) in
          let b : naming_slots t c.file ≡ 0 = ap (naming_slots t) at ∙ none in
          omega (arith, a, b, named_in_le t n c.file, named_in_at t n c.file d s.dir.there))
    ]
    | inr other ↦ ap is_some (parents_elsewhere now t n d d' x old new parent s.apart s.dir.there s.dir.content s.renamed.content c.file other)
  ]

  links_put : d'.links ≡ 2 + subdirectories u new
  links_put =
      let a : count_by (names_directory u) new + 0 ≡ count_by (names_directory u) old + one_where (is_some (parent_at u e.file)) = put.counts (names_directory u) refl in
      let b : one_where (is_some (parent_at u e.file)) ≡ one_where (is_some (parent_after now x)) =
      ap (λ k. one_where (is_some (parent_at u k))) s.file ∙ ap (λ o. one_where (is_some o)) (parent_there now t n d' x s.apart) in
      let c : subdirectories u old ≡ subdirectories t old = subdirectories_alike t u old kind_old in
      omega (arith, a, b, c, s.links, dir_links t n d parent s.whole s.dir)

  one_name : naming_slots t m ≡ 0 → named_in u n m ≡ 1
  one_name none =
      let a : named_in u n m ≡ count_by (names_file m) new = named_in_at u n m (changed_at now d') (get_dir now t n d' x s.apart) ∙ ap (λ c. count_by (names_file m) (slots_of c)) s.renamed.content in
      let b : one_where (m == m) ≡ 1 = ap one_where (eq-eqb m m refl) in
      omega (arith, a, b, none, count_file m, named_in_le t n m, named_in_at t n m d s.dir.there)

  put_step : IsStep now t n d d' x old new parent (λ b. 0) one_where
  put_step = record {
    whole = s.whole;
    there = s.dir.there;
    content = s.dir.content;
    content' = s.renamed.content;
    apart = s.apart;
    not_root = s.not_root;
    nothing = (refl, refl);
    counts = count_file;
    none_before = s.none_before;
    none_after = s.none_after;
    dues = let h = s.dues in omega (arith, h);
    links = links_put;
    turned = elim s.turned [ inl same ↦ inl same | inr none ↦ inr (inl none) ];
    own_links = s.own_links u;
    parent' = λ k is. let h = s.parent' k is in (h.0, one_name h.1);
  }

  -- a name that is put, within the limits, leaves a file system
  pub put_good : (start : ℕ) → ArePassed (limits t start (Changed n d' ∷ x ∷ [])) → IsGood (edited now t (Changed n d' ∷ x ∷ []))
  put_good start passed =
      let within = within_limits t start (Changed n d' ∷ x ∷ []) passed in
      let room = roomy t start n d' (x ∷ []) within in
      let own = renamed_own d d' new parent (s.whole.own n d s.dir.there) s.renamed put.names room.links room.slots in
      good_from_whole u (whole_edited now t start (Changed n d' ∷ x ∷ []) s.whole ((s.apart, tt), (tt, tt)) ((subst IsSome (sym s.dir.there) refl, own), (s.apt, tt)) within
      (step_shaped now t n d d' x old new parent (λ b. 0) one_where put_step))
