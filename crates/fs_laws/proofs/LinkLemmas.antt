-- LINK, REMOVE and RMDIR leave a file system.
use Rattle.std.proofs.Common.{◌≡◌, ◌≢◌, ℕ, ◌+◌, ◌-◌, ◌<◌, ◌≤◌, Bool, true, false, cond, not, ◌||◌, List, [], ◌∷◌, Option, Some, None, inl, inr, refl, sym, ap, subst, ◌∙◌, arith}
use Rattle.std.specs.Prelude.{nat_lt, IsSome, is_some, count_by, option_and_then}
use Rattle.std.specs.Option.{option_map_or}
use Rattle.std.specs.FinMap as table
use Rattle.std.proofs.lemmas.Bool.{or_parts, not-false, ltb-true, ltb-false, eq-eqb, ne_eqb}
use Rattle.std.proofs.lemmas.List.Sums.{sum_by-cons}
use Rattle.nfs_proto.specs.declared.stamp.Stamp.{Stamp}
use Rattle.fs_rules.specs.declared.content.Content.{Content}
use Rattle.fs_rules.specs.declared.content.Content.TheVariants.{Regular, Link, Directory}
use Rattle.fs_rules.specs.declared.entry.Entry.{Entry}
use Rattle.fs_rules.specs.declared.file.File.{File}
use Rattle.fs_rules.specs.declared.plain_tree.PlainTree.{PlainTree}
use Rattle.fs_rules.specs.File.{slots_of, parent_of, is_directory}
use Rattle.fs_rules.specs.Slots.{file_named, is_in_use, put_name, take_name}
use Rattle.fs_rules.specs.Statuses.{fails_where, isdir, notdir, notempty}
use Rattle.fs_rules.specs.Edits.{Changed, Freed, changed_at, edited, limits}
use Rattle.fs_rules.specs.Arguments.{Named, is_dots, at_number}
use Rattle.fs_rules.specs.Making.{with_name, linked}
use Rattle.fs_rules.specs.Names.{link_checks, link_edits, without_name, unlinked, loses_link, remove_checks, remove_edits_by, remove_edits, remove_dir_checks, remove_dir_edits_by, remove_dir_edits}
use Rattle.fs_rules.specs.Good.{IsGood, IsStored, names_file, naming_slots, parent_at}
use Rattle.fs_laws.proofs.StatusLemmas.{ArePassed, not_so}
use Rattle.fs_laws.proofs.SumLemmas.{one_where, count_has}
use Rattle.fs_laws.proofs.WholeLemmas.{named_in, due_of, due, IsOwnContent, HasLinks, IsWhole, directory_at, parent_is, due_at, named_in_at, named_in_le, live_from_named, whole_from_good}
use Rattle.fs_laws.proofs.EditLemmas.{names_of, within_limits}
use Rattle.fs_laws.proofs.SlotLemmas.{IsThere, there_from_file, absent_from_file}
use Rattle.fs_laws.proofs.DirLemmas.{IsDir, dir_content, dir_links, renamed_dir, name_from_checks, roomy}
use Rattle.fs_laws.proofs.PutLemmas.{put_good}
use Rattle.fs_laws.proofs.TakeLemmas.{IsTakeStep, take_good}
use Rattle.fs_laws.proofs.MakeLemmas.{IsGiven, none_of_test}
use Rattle.fs_laws.proofs.WriteLemmas.{nothing_good}

-- ---- files that are no directories

-- what holds of the content of a file that is no directory
pub record IsPlain (c : Content) : Type 0 where
  pub slots : slots_of c ≡ []
  pub parent : parent_of c ≡ None
  pub due : (n : ℕ) (f : File) → due_of n f c ≡ f.links
  pub links : (u : PlainTree) (f : File) → HasLinks u f c
  pub own : (f g : File) → g.size ≡ f.size → 1 ≤ g.links → IsOwnContent f c → IsOwnContent g c
  pub named : (f : File) → IsOwnContent f c → 1 ≤ f.links

pub plain_content : (c : Content) → is_directory c ≡ false → IsPlain c
plain_content (Regular blocks) h = record {
  slots = refl;
  parent = refl;
  due = λ n f. refl;
  links = λ u f. tt;
  own = λ f g same some h. (subst (λ (s : ℕ). s ≤ 16711680) (sym same) h.0, subst (λ (s : ℕ). IsStored s blocks) (sym same) h.1, some);
  named = λ f h. h.2;
}
plain_content (Directory slots parent) h = absurd cc
plain_content (Link blocks) h = record {
  slots = refl;
  parent = refl;
  due = λ n f. refl;
  links = λ u f. tt;
  own = λ f g same some h. (subst (λ (s : ℕ). s ≤ 1024) (sym same) h.0, subst (λ (s : ℕ). IsStored s blocks) (sym same) h.1, some);
  named = λ f h. h.2;
}

-- a live file that is none
pub record IsFile (t : PlainTree) (m : ℕ) (f : File) : Type 0 where
  pub there : table.get t.files m ≡ Some f
  pub plain : is_directory f.content ≡ false

pub file_apart : (t : PlainTree) (m n : ℕ) (f d : File) (parent : ℕ) → IsFile t m f → IsDir t n d parent → m ≢ n
file_apart t m n f d parent file dir same =
    let e : ◌≡◌ {A = Option File} (Some f) (Some d) = sym file.there ∙ ap (table.get t.files) same ∙ dir.there in
    let f_is : f ≡ d = cc in
    let k : ◌≡◌ {A = Bool} false true = sym file.plain ∙ ap (λ (g : File). is_directory g.content) f_is ∙ ap is_directory dir.content in
    absurd cc

pub file_parent : (t : PlainTree) (m : ℕ) (f : File) → IsFile t m f → parent_at t m ≡ None
file_parent t m f file = ap (λ (o : Option File). option_and_then (λ g. parent_of g.content) o) file.there ∙ (plain_content f.content file.plain).parent

pub file_not_root : (t : PlainTree) (m : ℕ) (f : File) → IsWhole t → IsFile t m f → m ≢ 1
file_not_root t m f whole file same =
    let e : ◌≡◌ {A = Option ℕ} None (Some 1) = sym (file_parent t m f file) ∙ ap (parent_at t) same ∙ whole.root in
    absurd cc

pub file_names : (t : PlainTree) (m q : ℕ) (f : File) → IsFile t m f → names_of q f.content ≡ 0
file_names t m q f file = ap (λ (slots : List (Option Entry)). count_by (names_file q) slots) (plain_content f.content file.plain).slots

pub file_none : (t : PlainTree) (m q : ℕ) (f : File) → IsFile t m f → named_in t m q ≡ 0
file_none t m q f file = named_in_at t m q f file.there ∙ file_names t m q f file

pub file_due : (t : PlainTree) (m : ℕ) (f : File) → IsFile t m f → due t m ≡ f.links
file_due t m f file = due_at t m f f.content file.there refl ∙ (plain_content f.content file.plain).due m f

-- ---- LINK

pub link_good : (now : Stamp) (t : PlainTree) (start m : ℕ) (f : File) (n : ℕ) (d : File) (parent : ℕ) (name : Named) → IsGiven t n d parent name
    → table.get t.files m ≡ Some f → ArePassed (link_checks f d name.name) → ArePassed (limits t start (link_edits m f n d name.name now))
    → IsGood (edited now t (link_edits m f n d name.name now))
unfolding link_checks link_edits
link_good now t start m f n d parent name g there checked within =
    let file : IsFile t m f = record { there = there; plain = not_so 1 (is_directory f.content) checked.0 } in
    let plain = plain_content f.content file.plain in
    let whole = whole_from_good t g.good in
    let e : Entry = record { name = name.name; file = m } in
    let tests = or_parts (is_dots name.name) (is_some (file_named (slots_of d.content) name.name)) (not_so 17 (is_dots name.name || is_some (file_named (slots_of d.content) name.name)) checked.1.0) in
    let room = roomy t start n (with_name now name.name m d) (Changed m (linked f) ∷ []) (within_limits t start (Changed n (with_name now name.name m d) ∷ Changed m (linked f) ∷ []) within) in
    let own = whole.own m f there in
    let more = or_parts (nat_lt 32000 (f.links + 1)) false room.more_links in
    put_good now t n d (with_name now name.name m d) (Changed m (linked f)) e parent (record {
      whole = whole;
      dir = g.dir;
      name = name_from_checks name g.form tests.0 g.bytes;
      absent = absent_from_file (slots_of d.content) name.name (none_of_test (file_named (slots_of d.content) name.name) tests.1);
      file = refl;
      renamed = renamed_dir now (put_name (slots_of d.content) e) d parent g.dir.content;
      links = (let k : one_where (is_some (parent_of f.content)) ≡ 0 = ap (λ (o : Option ℕ). one_where (is_some o)) plain.parent in omega (arith, k));
      apart = file_apart t m n f d parent file g.dir;
      not_root = file_not_root t m f whole file;
      apt = (
        subst IsSome (sym there) refl,
        record {
          mode = own.mode;
          links = ltb-false 32000 (f.links + 1) more.0;
          content = plain.own f (linked f) refl (omega arith) own.content;
        },
      );
      none_before = λ q. file_none t m q f file;
      none_after = λ q. file_names t m q f file;
      dues = plain.due m (changed_at now (linked f)) ∙ (let k = file_due t m f file in ap (λ (x : ℕ). x + 1) (sym k));
      turned = inl (ap is_some (plain.parent ∙ sym (file_parent t m f file)));
      own_links = λ u h is. let same : changed_at now (linked f) ≡ h = cc in subst (λ h. HasLinks u h h.content) same (plain.links u (changed_at now (linked f)));
      parent' = λ k is. let none : ◌≡◌ {A = Option ℕ} None (Some k) = sym plain.parent ∙ is in absurd cc;
    }) start within

-- ---- a name that is there

-- the root is named by no slot
pub root_unnamed : (t : PlainTree) → IsWhole t → naming_slots t 1 ≡ 0
root_unnamed t whole =
    let r = directory_at t 1 1 whole.root in
    whole.named 1 ∙ due_at t 1 r.file (Directory r.slots 1) r.there r.content

-- a slot of a directory names a file
pub named_there : (t : PlainTree) (n : ℕ) (d : File) (parent : ℕ) (name : List ℕ) → IsDir t n d parent → (h : IsThere (slots_of d.content) name) → 1 ≤ named_in t n h.entry.file
named_there t n d parent name dir h =
    let a : 1 ≤ count_by (names_file h.entry.file) (slots_of d.content) =
    count_has (names_file h.entry.file) (slots_of d.content) h.place (Some h.entry) h.there (eq-eqb h.entry.file h.entry.file refl) in
    omega (arith, a, named_in_at t n h.entry.file d dir.there)

-- the file of a name that is there: it lives, and is not the root
pub record IsNamedFile (t : PlainTree) (n : ℕ) (d : File) (name : List ℕ) (m : ℕ) : Type 0 where
  pub here : IsThere (slots_of d.content) name
  pub file : here.entry.file ≡ m
  pub lives : IsSome (table.get t.files m)
  pub not_root : m ≢ 1
  pub names : 1 ≤ named_in t n m

pub named_file_of : (t : PlainTree) (n : ℕ) (d : File) (parent : ℕ) (name : List ℕ) (m : ℕ) → IsWhole t → IsDir t n d parent → file_named (slots_of d.content) name ≡ Some m
    → IsNamedFile t n d name m
named_file_of t n d parent name m whole dir is =
    let h = there_from_file (slots_of d.content) name m is in
    let a : 1 ≤ named_in t n m = subst (λ k. 1 ≤ named_in t n k) h.1 (named_there t n d parent name dir h.0) in
    let b : 1 ≤ naming_slots t m = omega (arith, a, named_in_le t n m) in
    record {
      here = h.0;
      file = h.1;
      lives = live_from_named t whole m b;
      not_root = λ same. let c : naming_slots t m ≡ 0 = ap (naming_slots t) same ∙ root_unnamed t whole in omega (arith, b, c);
      names = a;
    }

-- ---- REMOVE

-- what the arguments of a call that takes a name have passed
pub record IsTaking (t : PlainTree) (n : ℕ) (d : File) (parent : ℕ) : Type 0 where
  pub good : IsGood t
  pub dir : IsDir t n d parent

remove_step : (now : Stamp) (t : PlainTree) (n : ℕ) (d : File) (parent : ℕ) (name : List ℕ) (m : ℕ) (f : File) → IsTaking t n d parent → IsNamedFile t n d name m → IsFile t m f
    → IsTakeStep now t n d (without_name now name d) (loses_link m f) name parent
remove_step now t n d parent name m f g h file = go (nat_lt 1 f.links) refl where
  go : (b : Bool) → nat_lt 1 f.links ≡ b → IsTakeStep now t n d (without_name now name d) (cond b (Changed m (unlinked 1 f)) (Freed m f)) name parent
  go true is =
      let whole = whole_from_good t g.good in
      let plain = plain_content f.content file.plain in
      let own = whole.own m f file.there in
      let two : 1 < f.links = ltb-true 1 f.links is in
      record {
        whole = whole;
        dir = g.dir;
        here = h.here;
        file = h.file;
        renamed = renamed_dir now (take_name (slots_of d.content) name) d parent g.dir.content;
        links = (let k : one_where (is_some (parent_at t m)) ≡ 0 = ap (λ (o : Option ℕ). one_where (is_some o)) (file_parent t m f file) in omega (arith, k));
        apart = file_apart t m n f d parent file g.dir;
        not_root = h.not_root;
        apt = (h.lives, record { mode = own.mode; links = omega (arith, own.links); content = plain.own f (unlinked 1 f) refl (omega (arith, two)) own.content });
        none_before = λ q. file_none t m q f file;
        none_after = λ q. file_names t m q f file;
        dues = (let a : due_of m (changed_at now (unlinked 1 f)) f.content ≡ f.links - 1 = plain.due m (changed_at now (unlinked 1 f)) in omega (arith, a, file_due t m f file, two));
        turned = inl (ap is_some (plain.parent ∙ sym (file_parent t m f file)));
        own_links = λ u k is. let same : changed_at now (unlinked 1 f) ≡ k = cc in subst (λ h. HasLinks u h h.content) same (plain.links u (changed_at now (unlinked 1 f)));
        parent' = plain.parent;
      }
  go false is =
      let whole = whole_from_good t g.good in
      let plain = plain_content f.content file.plain in
      let own = whole.own m f file.there in
      let one : f.links ≤ 1 = ltb-false 1 f.links is in
      let some : 1 ≤ f.links = plain.named f own.content in
      record {
        whole = whole;
        dir = g.dir;
        here = h.here;
        file = h.file;
        renamed = renamed_dir now (take_name (slots_of d.content) name) d parent g.dir.content;
        links = (let k : one_where (is_some (parent_at t m)) ≡ 0 = ap (λ (o : Option ℕ). one_where (is_some o)) (file_parent t m f file) in omega (arith, k));
        apart = file_apart t m n f d parent file g.dir;
        not_root = h.not_root;
        apt = h.lives;
        none_before = λ q. file_none t m q f file;
        none_after = λ q. refl;
        dues = omega (arith, file_due t m f file, one, some);
        turned = inr refl;
        own_links = λ u k is. absurd cc;
        parent' = refl;
      }

pub remove_good : (now : Stamp) (t : PlainTree) (start n : ℕ) (d : File) (parent : ℕ) (name : List ℕ) → IsTaking t n d parent → ArePassed (remove_checks t d name)
    → ArePassed (limits t start (remove_edits t n d name now)) → IsGood (edited now t (remove_edits t n d name now))
unfolding remove_checks remove_edits
remove_good now t start n d parent name g checked within = go (file_named (slots_of d.content) name) refl checked.1.1.0 within where
  at : (m : ℕ) → file_named (slots_of d.content) name ≡ Some m → (o : Option File) → table.get t.files m ≡ o
      → fails_where isdir (option_map_or (λ f. is_directory f.content) o false) ≡ None
      → ArePassed (limits t start (Changed n (without_name now name d) ∷ option_map_or (λ f. loses_link m f ∷ []) o []))
      → IsGood (edited now t (Changed n (without_name now name d) ∷ option_map_or (λ f. loses_link m f ∷ []) o []))
  at m is None dead plain within =
      let h = named_file_of t n d parent name m (whole_from_good t g.good) g.dir is in
      absurd (let e : IsSome {T = File} None = subst IsSome dead h.lives in cc)
  at m is (Some f) there plain within =
      let h = named_file_of t n d parent name m (whole_from_good t g.good) g.dir is in
      take_good now t n d (without_name now name d) (loses_link m f) name parent
      (remove_step now t n d parent name m f g h (record { there = there; plain = not_so 21 (is_directory f.content) plain })) start within

  go : (o : Option ℕ) → file_named (slots_of d.content) name ≡ o → fails_where isdir (option_map_or (λ m. at_number t m false (λ f. is_directory f.content)) o false) ≡ None
      → ArePassed (limits t start (remove_edits_by t o n d name now)) → IsGood (edited now t (remove_edits_by t o n d name now))
  go None is plain within = nothing_good now t g.good
  go (Some m) is plain within = at m is (table.get t.files m) refl plain within

-- ---- RMDIR

none_in_use : (slots : List (Option Entry)) (q : ℕ) → is_in_use slots ≡ false → count_by (names_file q) slots ≡ 0
none_in_use [] q h = refl
none_in_use (None ∷ slots) q h = omega (arith, none_in_use slots q h, sum_by-cons (λ s. one_where (names_file q s)) None slots)
none_in_use (Some e ∷ slots) q h = absurd cc

-- an empty directory that is named
pub record IsEmptyDir (t : PlainTree) (m : ℕ) (f : File) (up : ℕ) : Type 0 where
  pub dir : IsDir t m f up
  pub empty : is_in_use (slots_of f.content) ≡ false

pub empty_none : (t : PlainTree) (m q : ℕ) (f : File) (up : ℕ) → IsEmptyDir t m f up → named_in t m q ≡ 0
empty_none t m q f up h = named_in_at t m q f h.dir.there ∙ none_in_use (slots_of f.content) q h.empty

pub dir_due : (t : PlainTree) (m : ℕ) (f : File) (up : ℕ) → IsDir t m f up → m ≢ 1 → due t m ≡ 1
dir_due t m f up dir other = due_at t m f (Directory (slots_of f.content) up) dir.there dir.content ∙ ap (λ b. cond b 0 1) (ne_eqb m 1 other)

pub dir_parent : (t : PlainTree) (m : ℕ) (f : File) (up : ℕ) → IsDir t m f up → parent_at t m ≡ Some up
dir_parent t m f up dir = parent_is t m up f (slots_of f.content) dir.there dir.content

remove_dir_step : (now : Stamp) (t : PlainTree) (n : ℕ) (d : File) (parent : ℕ) (name : List ℕ) (m : ℕ) (f : File) (up : ℕ) → IsTaking t n d parent → IsNamedFile t n d name m
    → IsEmptyDir t m f up → IsTakeStep now t n d (unlinked 1 (without_name now name d)) (Freed m f) name parent
remove_dir_step now t n d parent name m f up g h empty =
    let whole = whole_from_good t g.good in
    let r = renamed_dir now (take_name (slots_of d.content) name) d parent g.dir.content in
    record {
      whole = whole;
      dir = g.dir;
      here = h.here;
      file = h.file;
      renamed = record { content = r.content; mode = r.mode; size = r.size };
      links = (let k : one_where (is_some (parent_at t m)) ≡ 1 = ap (λ (o : Option ℕ). one_where (is_some o)) (dir_parent t m f up empty.dir) in
          omega (arith, k, dir_links t n d parent whole g.dir));
      apart = λ same. let a : 1 ≤ named_in t m m = subst (λ k. 1 ≤ named_in t k m) (sym same) h.names in omega (arith, a, empty_none t m m f up empty);
      not_root = h.not_root;
      apt = h.lives;
      none_before = λ q. empty_none t m q f up empty;
      none_after = λ q. refl;
      dues = omega (arith, dir_due t m f up empty.dir h.not_root);
      turned = inr refl;
      own_links = λ u k is. absurd cc;
      parent' = refl;
    }

pub remove_dir_good : (now : Stamp) (t : PlainTree) (start n : ℕ) (d : File) (parent : ℕ) (name : List ℕ) → IsTaking t n d parent → ArePassed (remove_dir_checks t d name)
    → ArePassed (limits t start (remove_dir_edits t n d name now)) → IsGood (edited now t (remove_dir_edits t n d name now))
unfolding remove_dir_checks remove_dir_edits
remove_dir_good now t start n d parent name g checked within = go (file_named (slots_of d.content) name) refl checked.1.1.0 checked.1.1.1.0 within where
  at : (m : ℕ) → file_named (slots_of d.content) name ≡ Some m → (o : Option File) → table.get t.files m ≡ o
      → fails_where notdir (not (option_map_or (λ f. is_directory f.content) o false)) ≡ None
      → fails_where notempty (option_map_or (λ f. is_in_use (slots_of f.content)) o false) ≡ None
      → ArePassed (limits t start (Changed n (unlinked 1 (without_name now name d)) ∷ option_map_or (λ f. Freed m f ∷ []) o []))
      → IsGood (edited now t (Changed n (unlinked 1 (without_name now name d)) ∷ option_map_or (λ f. Freed m f ∷ []) o []))
  at m is None dead directory empty within =
      let h = named_file_of t n d parent name m (whole_from_good t g.good) g.dir is in
      absurd (let e : IsSome {T = File} None = subst IsSome dead h.lives in cc)
  at m is (Some f) there directory empty within =
      let h = named_file_of t n d parent name m (whole_from_good t g.good) g.dir is in
      let c = dir_content f.content (not-false (is_directory f.content) (not_so 20 (not (is_directory f.content)) directory)) in
      take_good now t n d (unlinked 1 (without_name now name d)) (Freed m f) name parent
      (remove_dir_step now t n d parent name m f c.0 g h (record {
        dir = record { there = there; content = c.1 };
        empty = not_so 66 (is_in_use (slots_of f.content)) empty;
      })) start within

  go : (o : Option ℕ) → file_named (slots_of d.content) name ≡ o
      → fails_where notdir (not (option_map_or (λ m. at_number t m false (λ f. is_directory f.content)) o false)) ≡ None
      → fails_where notempty (option_map_or (λ m. at_number t m false (λ f. is_in_use (slots_of f.content))) o false) ≡ None
      → ArePassed (limits t start (remove_dir_edits_by t o n d name now)) → IsGood (edited now t (remove_dir_edits_by t o n d name now))
  go None is directory empty within = nothing_good now t g.good
  go (Some m) is directory empty within = at m is (table.get t.files m) refl directory empty within
