-- RENAME leaves a file system.
use Rattle.std.proofs.Common.{◌≡◌, ◌≢◌, ℕ, ◌+◌, ◌≤◌, Bool, true, false, cond, not, ◌&&◌, ◌||◌, List, [], ◌∷◌, ◌++◌, Option, Some, None, inl, inr, refl, sym, ap, subst, ◌∙◌, arith}
use Rattle.std.specs.Prelude.{◌==◌, IsSome, option_and_then, if◌then◌else◌}
use Rattle.std.specs.Option.{option_map_or}
use Rattle.std.specs.List.{list_any}
use Rattle.std.specs.FinMap as table
use Rattle.std.proofs.lemmas.Bool.{or_parts, not-false, eq-eqb, ne_eqb, eqb-true, eqb-false}
use Rattle.nfs_proto.specs.declared.stamp.Stamp.{Stamp}
use Rattle.fs_rules.specs.declared.entry.Entry.{Entry}
use Rattle.fs_rules.specs.declared.file.File.{File}
use Rattle.fs_rules.specs.declared.plain_tree.PlainTree.{PlainTree}
use Rattle.fs_rules.specs.Lists.{below}
use Rattle.fs_rules.specs.Handle.{number_in}
use Rattle.fs_rules.specs.File.{slots_of, is_directory}
use Rattle.fs_rules.specs.Slots.{file_named, is_in_use, put_name, take_name}
use Rattle.fs_rules.specs.Edits.{Edit, Changed, Freed, edited, limits}
use Rattle.fs_rules.specs.Arguments.{file_of, at_file, at_number, is_dots}
use Rattle.fs_rules.specs.Making.{renamed}
use Rattle.fs_rules.specs.Names.{unlinked, without_name, loses_link, with_parent, Move, is_same, leads_to, move_checks, directory_edits, replaced_edits, move_edits, named_file, move_of, rename_checks, rename_edits}
use Rattle.fs_rules.specs.Respond.{move_by}
use Rattle.fs_rules.specs.Good.{IsName, parent_at, IsGood}
use Rattle.fs_laws.proofs.StatusLemmas.{ArePassed, not_so}
use Rattle.fs_laws.proofs.SumLemmas.{one_where}
use Rattle.fs_laws.proofs.ToldLemmas.{live}
use Rattle.fs_laws.proofs.WholeLemmas.{named_in, IsWhole, whole_from_good}
use Rattle.fs_laws.proofs.SlotLemmas.{absent_from_file}
use Rattle.fs_laws.proofs.DirLemmas.{IsDir, dir_content}
use Rattle.fs_laws.proofs.LinkLemmas.{IsFile, file_apart, file_parent, IsNamedFile, named_file_of, IsEmptyDir, empty_none}
use Rattle.fs_laws.proofs.MoveLemmas.{IsAround}
use Rattle.fs_laws.proofs.ReplaceLemmas.{IsSource, source_kind, around_from_checks, IsReplacing, replacing_none, IsOld, replacing_file, replacing_dir}
use Rattle.fs_laws.proofs.WithinLemmas.{within_good}
use Rattle.fs_laws.proofs.AcrossLemmas.{across_good}
use Rattle.fs_laws.proofs.WriteLemmas.{nothing_good}

-- the edits of a RENAME: within one directory or across two, over a directory or not, and what becomes of a replaced file
abbrev pub renaming : Stamp → Bool → ℕ → File → ℕ → File → ℕ → File → List ℕ → Entry → Bool → List Edit → List Edit
renaming now same a c b d s f name e directory tail =
    (if same
    then Changed b (unlinked (one_where directory) (renamed now (take_name (put_name (slots_of d.content) e) name) d)) ∷ []
    else
    Changed a (unlinked (one_where (is_directory f.content)) (without_name now name c))
    ∷ Changed b (unlinked (one_where directory) (record (renamed now (put_name (slots_of d.content) e) d) { links = d.links + one_where (is_directory f.content) }))
    ∷ [])
    ++ (Changed s (record f { content = with_parent b f.content }) ∷ tail)

-- what moves where
pub record IsRenaming (t : PlainTree) (a : ℕ) (c : File) (up b : ℕ) (d : File) (parent s : ℕ) (f : File) (name : List ℕ) (e : Entry) : Type 0 where
  pub whole : IsWhole t
  pub first : IsDir t a c up
  pub second : IsDir t b d parent
  pub source : IsSource t a s f
  pub from : file_named (slots_of c.content) name ≡ Some s
  pub here : IsNamedFile t a c name s
  pub file : e.file ≡ s
  pub differ : a ≡ b → name ≢ e.name
  pub around : a ≢ b → (p : ℕ) → parent_at t s ≡ Some p → IsAround t b s

same_some : (g k : File) → ◌≡◌ {A = Option File} (Some g) (Some k) → g ≡ k
same_some g k is = cc

-- two directories with one number are one
pub one_dir : (t : PlainTree) (a : ℕ) (c : File) (up b : ℕ) (d : File) (parent : ℕ) → IsDir t a c up → IsDir t b d parent → a ≡ b → c ≡ d
one_dir t a c up b d parent first second same = same_some c d (sym first.there ∙ ap (table.get t.files) same ∙ second.there)

renaming_good : (now : Stamp) (t : PlainTree) (start a : ℕ) (c : File) (up b : ℕ) (d : File) (parent s : ℕ) (f : File) (name : List ℕ) (e : Entry) (tail : List Edit) (Replaced : ℕ → Type 0)
    (left : Option File) (old : Option Entry) (directory : Bool) → IsRenaming t a c up b d parent s f name e
    → IsReplacing now t a b s (slots_of d.content) e tail Replaced left old directory → ArePassed (limits t start (renaming now (a == b) a c b d s f name e directory tail))
    → IsGood (edited now t (renaming now (a == b) a c b d s f name e directory tail))
renaming_good now t start a c up b d parent s f name e tail Replaced left old directory h r = go (a == b) refl where
  go : (same : Bool) → (a == b) ≡ same → ArePassed (limits t start (renaming now same a c b d s f name e directory tail))
      → IsGood (edited now t (renaming now same a c b d s f name e directory tail))
  go true is passed =
      let same = eqb-true a b is in
      let one = one_dir t a c up b d parent h.first h.second same in
      within_good now t b d parent s f name e tail Replaced left old directory (record {
        whole = h.whole;
        dir = h.second;
        source = record { there = h.source.there; not_root = h.source.not_root; named = subst (λ k. 1 ≤ named_in t k s) same h.source.named };
        from = subst (λ k. file_named (slots_of k.content) name ≡ Some s) one h.from;
        apart = h.differ same;
        file = h.file;
        replacing = subst (λ k. IsReplacing now t k b s (slots_of d.content) e tail Replaced left old directory) same r;
      }) start passed
  go false is passed =
      let apart = eqb-false a b is in
      across_good now t a c up b d parent s f name e tail Replaced left old directory (record {
        whole = h.whole;
        first = h.first;
        second = h.second;
        apart = apart;
        source = h.source;
        here = h.here.here;
        here_file = h.here.file;
        file = h.file;
        around = h.around apart;
        replacing = r;
      }) start passed

-- ---- the file that is replaced, and the checks

-- a name's file, with its number
pub record IsNamedBy (t : PlainTree) (d : File) (name : List ℕ) (n : ℕ) (f : File) : Type 0 where
  pub named : file_named (slots_of d.content) name ≡ Some n
  pub there : table.get t.files n ≡ Some f

pub named_by : (t : PlainTree) (d : File) (name : List ℕ) (r : ℕ × File) → named_file t d name ≡ Some r → IsNamedBy t d name r.0 r.1
named_by t d name r h = go (file_named (slots_of d.content) name) refl h where
  at : (n : ℕ) → file_named (slots_of d.content) name ≡ Some n → (o : Option File) → table.get t.files n ≡ o → option_map_or (λ f. Some (n, f)) o None ≡ Some r → IsNamedBy t d name r.0 r.1
  at n is None there e = absurd cc
  at n is (Some f) there e =
      let both : ◌≡◌ {A = ℕ × File} (n, f) r = cc in
      subst (λ (p : ℕ × File). IsNamedBy t d name p.0 p.1) both (record { named = is; there = there })

  go : (o : Option ℕ) → file_named (slots_of d.content) name ≡ o → option_and_then (λ n. at_number t n None (λ f. Some (n, f))) o ≡ Some r → IsNamedBy t d name r.0 r.1
  go None is e = absurd cc
  go (Some n) is e = at n is (table.get t.files n) refl e

-- a file with its number
abbrev numbered : ℕ → File → Option (ℕ × File)
numbered n f = Some (n, f)

-- a name that has no file names none
named_none : (t : PlainTree) (b : ℕ) (d : File) (parent : ℕ) (name : List ℕ) → IsWhole t → IsDir t b d parent → named_file t d name ≡ None → file_named (slots_of d.content) name ≡ None
named_none t b d parent name whole dir h = go (file_named (slots_of d.content) name) refl h where
  at : (n : ℕ) → file_named (slots_of d.content) name ≡ Some n → (o : Option File) → table.get t.files n ≡ o → option_map_or (numbered n) o None ≡ None → Some n ≡ None
  at n is None there e = absurd (let k : IsSome {T = File} None = subst IsSome there (named_file_of t b d parent name n whole dir is).lives in cc)
  at n is (Some f) there e = absurd cc

  go : (o : Option ℕ) → file_named (slots_of d.content) name ≡ o → option_and_then (λ n. at_number t n None (numbered n)) o ≡ None → o ≡ None
  go None is e = refl
  go (Some n) is e = at n is (table.get t.files n) refl e

-- a move as it is found
abbrev pub moving : ℕ → File → List ℕ → ℕ → File → List ℕ → ℕ → File → Option (ℕ × File) → Move
moving a c name b d to_name s f replaced =
    record { from = a; from_dir = c; from_name = name; to = b; to_dir = d; to_name = to_name; source = s; source_file = f; replaced = replaced }

pub record IsFound (t : PlainTree) (a : ℕ) (c : File) (up : ℕ) (name : List ℕ) (b : ℕ) (d : File) (parent : ℕ) (to_name : List ℕ) (s : ℕ) (f : File) (replaced : Option (ℕ × File)) : Type 0 where
  pub good : IsGood t
  pub first : IsDir t a c up
  pub second : IsDir t b d parent
  pub source : IsNamedBy t c name s f
  pub to : IsName to_name
  pub replaced' : named_file t d to_name ≡ replaced

module _ (now : Stamp) (t : PlainTree) (start a : ℕ) (c : File) (up : ℕ) (name : List ℕ) (b : ℕ) (d : File) (parent : ℕ) (to_name : List ℕ) (s : ℕ) (f : File) where
  -- the way from the second directory does not pass a directory that is moved there
  pub way_around : (replaced : Option (ℕ × File)) → ArePassed (move_checks t (moving a c name b d to_name s f replaced)) → table.get t.files s ≡ Some f
      → a ≢ b → (p : ℕ) → parent_at t s ≡ Some p → IsAround t b s
  way_around replaced checked there apart p is = elim (source_kind t s f there) [
    | inl file ↦ let e : ◌≡◌ {A = Option ℕ} None (Some p) = sym (file_parent t s f file) ∙ is in absurd cc
    | inr own ↦
        let dir : is_directory f.content ≡ true = ap is_directory own.1.content in
        let other : (a == b) ≡ false = ne_eqb a b apart in
        let changes : (is_directory f.content && not (a == b)) ≡ true = ap (λ x. x && not (a == b)) dir ∙ ap not other in
        let deep : not (leads_to t 200 b 1) ≡ false = ap (λ x. x && not (leads_to t 200 b 1)) (sym changes) ∙ not_so 63 _ checked.1.1.1.0 in
        let above : list_any (λ moves. leads_to t moves b s) (below 201) ≡ false =
        ap (λ x. x && list_any (λ moves. leads_to t moves b s) (below 201)) (sym changes) ∙ not_so 5 _ checked.1.1.1.1.0 in
        around_from_checks t 200 b s (not-false (leads_to t 200 b 1) deep) above
  ]

  module _ (replaced : Option (ℕ × File)) (h : IsFound t a c up name b d parent to_name s f replaced) (checked : ArePassed (move_checks t (moving a c name b d to_name s f replaced)))
      (other : is_same (moving a c name b d to_name s f replaced) ≡ false) where
    abbrev e : Entry
    e = record { name = to_name; file = s }

    whole : IsWhole t
    whole = whole_from_good t h.good

    here : IsNamedFile t a c name s
    here = named_file_of t a c up name s whole h.first h.source.named

    differ : a ≡ b → name ≢ to_name
    differ same names =
        let one = one_dir t a c up b d parent h.first h.second same in
        let there : named_file t d to_name ≡ Some (s, f) =
        ap (λ k. option_and_then (λ n. at_number t n None (λ g. Some (n, g))) (file_named (slots_of k.content) to_name)) (sym one)
        ∙ ap (λ k. option_and_then (λ n. at_number t n None (λ g. Some (n, g))) (file_named (slots_of c.content) k)) (sym names)
        ∙ ap (option_and_then (λ n. at_number t n None (λ g. Some (n, g)))) h.source.named
        ∙ ap (λ (o : Option File). option_map_or (λ g. Some (s, g)) o None) h.source.there in
        let found : replaced ≡ Some (s, f) = sym h.replaced' ∙ there in
        let is : is_same (moving a c name b d to_name s f replaced) ≡ true = ap (λ (o : Option (ℕ × File)). option_map_or (λ r. r.0 == s) o false) found ∙ eq-eqb s s refl in
        let clash : ◌≡◌ {A = Bool} true false = sym is ∙ other in
        absurd cc

    is_renaming : IsRenaming t a c up b d parent s f name e
    is_renaming = record {
      whole = whole;
      first = h.first;
      second = h.second;
      source = record { there = h.source.there; not_root = here.not_root; named = here.names };
      from = h.source.named;
      here = here;
      file = refl;
      differ = differ;
      around = way_around replaced checked h.source.there;
    }

  -- the second name is new
  new_good : (h : IsFound t a c up name b d parent to_name s f None) → ArePassed (move_checks t (moving a c name b d to_name s f None))
      → ArePassed (limits t start (renaming now (a == b) a c b d s f name (record { name = to_name; file = s }) false []))
      → IsGood (edited now t (renaming now (a == b) a c b d s f name (record { name = to_name; file = s }) false []))
  new_good h checked passed =
      let whole = whole_from_good t h.good in
      renaming_good now t start a c up b d parent s f name (record { name = to_name; file = s }) [] (λ q. ⊥) None None false (is_renaming None h checked refl)
      (replacing_none now t a b s d parent (record { name = to_name; file = s }) whole h.second h.to
      (absent_from_file (slots_of d.content) to_name (named_none t b d parent to_name whole h.second h.replaced'))) passed

  -- the second name is that of another file
  over_good : (r : ℕ) (g : File) (h : IsFound t a c up name b d parent to_name s f (Some (r, g))) → ArePassed (move_checks t (moving a c name b d to_name s f (Some (r, g)))) → (r == s) ≡ false
      → ArePassed (limits t start (renaming now (a == b) a c b d s f name (record { name = to_name; file = s }) (is_directory g.content)
      ((if is_directory g.content then Freed r g else loses_link r g) ∷ [])))
      → IsGood (edited now t (renaming now (a == b) a c b d s f name (record { name = to_name; file = s }) (is_directory g.content)
      ((if is_directory g.content then Freed r g else loses_link r g) ∷ [])))
  over_good r g h checked apart = go (is_directory g.content) refl where
    whole' : IsWhole t
    whole' = whole_from_good t h.good

    moved : IsNamedFile t a c name s
    moved = named_file_of t a c up name s whole' h.first h.source.named

    by : IsNamedBy t d to_name r g
    by = named_by t d to_name (r, g) h.replaced'

    named : IsNamedFile t b d to_name r
    named = named_file_of t b d parent to_name r whole' h.second by.named

    go : (k : Bool) → is_directory g.content ≡ k
        → ArePassed (limits t start (renaming now (a == b) a c b d s f name (record { name = to_name; file = s }) k ((if k then Freed r g else loses_link r g) ∷ [])))
        → IsGood (edited now t (renaming now (a == b) a c b d s f name (record { name = to_name; file = s }) k ((if k then Freed r g else loses_link r g) ∷ [])))
    go false is passed =
        let file : IsFile t r g = record { there = by.there; plain = is } in
        let old : IsOld t a b s d to_name r g = record {
          named = named;
          there = by.there;
          not_source = eqb-false r s apart;
          not_from = file_apart t r a g c up file h.first;
          not_to = file_apart t r b g d parent file h.second;
        } in
        let rep = replacing_file now t a b s d parent (record { name = to_name; file = s }) r g whole' h.second h.to old is in
        renaming_good now t start a c up b d parent s f name (record { name = to_name; file = s }) (loses_link r g ∷ []) (λ q. q ≡ r) rep.0 (Some named.here.entry) false
        (is_renaming (Some (r, g)) h checked apart) rep.1 passed
    go true is passed =
        let content = dir_content g.content is in
        let empty : IsEmptyDir t r g content.0 = record {
          dir = record { there = by.there; content = content.1 };
          empty = not_so 66 (is_in_use (slots_of g.content)) checked.1.1.0;
        } in
        let old : IsOld t a b s d to_name r g = record {
          named = named;
          there = by.there;
          not_source = eqb-false r s apart;
          not_from = λ at. let x : 1 ≤ named_in t r s = subst (λ k. 1 ≤ named_in t k s) (sym at) moved.names in omega (arith, x, empty_none t r s g content.0 empty);
          not_to = λ at. let x : 1 ≤ named_in t r r = subst (λ k. 1 ≤ named_in t k r) (sym at) named.names in omega (arith, x, empty_none t r r g content.0 empty);
        } in
        renaming_good now t start a c up b d parent s f name (record { name = to_name; file = s }) (Freed r g ∷ []) (λ q. q ≡ r) None (Some named.here.entry) true
        (is_renaming (Some (r, g)) h checked apart)
        (replacing_dir now t a b s d parent (record { name = to_name; file = s }) r g whole' h.second h.to old content.0 empty) passed

  -- what is found is moved
  move_good : (replaced : Option (ℕ × File)) → IsFound t a c up name b d parent to_name s f replaced
      → ArePassed (cond (is_same (moving a c name b d to_name s f replaced)) [] (move_checks t (moving a c name b d to_name s f replaced)))
      → ArePassed (limits t start (move_edits now (moving a c name b d to_name s f replaced))) → IsGood (edited now t (move_edits now (moving a c name b d to_name s f replaced)))
  unfolding move_edits
  move_good None h checked passed = new_good h checked passed
  move_good (Some r) h checked passed = go (r.0 == s) refl checked passed where
    go : (same : Bool) → (r.0 == s) ≡ same → ArePassed (cond same [] (move_checks t (moving a c name b d to_name s f (Some r))))
        → ArePassed (limits t start (cond same [] (directory_edits now (moving a c name b d to_name s f (Some r))
        ++ (Changed s (record f { content = with_parent b f.content }) ∷ replaced_edits (moving a c name b d to_name s f (Some r))))))
        → IsGood (edited now t (cond same [] (directory_edits now (moving a c name b d to_name s f (Some r))
        ++ (Changed s (record f { content = with_parent b f.content }) ∷ replaced_edits (moving a c name b d to_name s f (Some r))))))
    go true is checked passed = nothing_good now t h.good
    go false is checked passed = over_good r.0 r.1 h checked is passed

-- ---- from the handles

-- what the arguments of a RENAME have passed
pub record IsRenamedBy (t : PlainTree) (from : List ℕ) (to : List ℕ) (to_name : List ℕ) : Type 0 where
  pub good : IsGood t
  pub first : (c : File) → file_of t from ≡ Some c → is_directory c.content ≡ true
  pub second : (d : File) → file_of t to ≡ Some d → is_directory d.content ≡ true
  pub to_named : is_dots to_name ≡ false → IsName to_name

pub rename_good : (now : Stamp) (t : PlainTree) (start : ℕ) (from from_name to to_name : List ℕ) → IsRenamedBy t from to to_name
    → ArePassed (rename_checks t (move_by t from from_name to to_name) from_name to_name) → ArePassed (limits t start (rename_edits now (move_by t from from_name to to_name)))
    → IsGood (edited now t (rename_edits now (move_by t from from_name to to_name)))
unfolding rename_checks
rename_good now t start from from_name to to_name g checked within = first (file_of t from) refl checked.1.1 within where
  a : ℕ
  a = number_in from

  b : ℕ
  b = number_in to

  dots : is_dots to_name ≡ false
  dots = (or_parts (is_dots from_name) (is_dots to_name) (not_so 13 (is_dots from_name || is_dots to_name) checked.0)).1

  third : (c : File) → file_of t from ≡ Some c → (d : File) → file_of t to ≡ Some d → (o : Option (ℕ × File)) → named_file t c from_name ≡ o
      → ArePassed (option_map_or (λ m. cond (is_same m) [] (move_checks t m)) (option_map_or (λ s. Some (moving (number_in from) c from_name (number_in to) d to_name s.0 s.1 (named_file t d to_name))) o None) [])
      → ArePassed (limits t start (rename_edits now (option_map_or (λ s. Some (moving (number_in from) c from_name (number_in to) d to_name s.0 s.1 (named_file t d to_name))) o None)))
      → IsGood (edited now t (rename_edits now (option_map_or (λ s. Some (moving (number_in from) c from_name (number_in to) d to_name s.0 s.1 (named_file t d to_name))) o None)))
  third c is d is_d None none checked within = nothing_good now t g.good
  third c is d is_d (Some s) some checked within =
      let up = dir_content c.content (g.first c is) in
      let parent = dir_content d.content (g.second d is_d) in
      move_good now t start (number_in from) c up.0 from_name (number_in to) d parent.0 to_name s.0 s.1 (named_file t d to_name) (record {
        good = g.good;
        first = record { there = live t from c is; content = up.1 };
        second = record { there = live t to d is_d; content = parent.1 };
        source = named_by t c from_name s some;
        to = g.to_named dots;
        replaced' = refl;
      }) checked within

  second : (c : File) → file_of t from ≡ Some c → (o : Option File) → file_of t to ≡ o
      → ArePassed (option_map_or (λ m. cond (is_same m) [] (move_checks t m)) (option_map_or (λ d. move_of t (number_in from) c from_name (number_in to) d to_name) o None) [])
      → ArePassed (limits t start (rename_edits now (option_map_or (λ d. move_of t (number_in from) c from_name (number_in to) d to_name) o None)))
      → IsGood (edited now t (rename_edits now (option_map_or (λ d. move_of t (number_in from) c from_name (number_in to) d to_name) o None)))
  second c is None none checked within = nothing_good now t g.good
  second c is (Some d) is_d checked within = third c is d is_d (named_file t c from_name) refl checked within

  first : (o : Option File) → file_of t from ≡ o
      → ArePassed (option_map_or (λ m. cond (is_same m) [] (move_checks t m)) (option_map_or (λ c. at_file t to None (λ b d. move_of t (number_in from) c from_name b d to_name)) o None) [])
      → ArePassed (limits t start (rename_edits now (option_map_or (λ c. at_file t to None (λ b d. move_of t (number_in from) c from_name b d to_name)) o None)))
      → IsGood (edited now t (rename_edits now (option_map_or (λ c. at_file t to None (λ b d. move_of t (number_in from) c from_name b d to_name)) o None)))
  first None none checked within = nothing_good now t g.good
  first (Some c) is checked within = second c is (file_of t to) refl checked within
