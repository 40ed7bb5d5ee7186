-- CREATE, MKDIR and SYMLINK leave a file system.
use Rattle.std.proofs.Common.{◌≡◌, ◌≢◌, ℕ, ◌+◌, ◌≤◌, Bool, true, false, cond, not, ◌&&◌, ◌||◌, List, [], ◌∷◌, length, Option, Some, None, inr, refl, sym, ap, subst, ◌∙◌, arith}
use Rattle.std.specs.Prelude.{◌==◌, max, is_some, count_by, option_and_then}
use Rattle.std.specs.Option.{option_map_or}
use Rattle.std.specs.FinMap as table
use Rattle.std.proofs.lemmas.Bool.{or_parts, not-false, ltb-false, ne_eqb}
use Rattle.sfs_base.specs.Reading.{IsBytes}
use Rattle.rpc_msg.specs.declared.cred.Cred.{Cred}
use Rattle.nfs_proto.specs.declared.sattr.Sattr.{Sattr}
use Rattle.nfs_proto.specs.declared.stamp.Stamp.{Stamp}
use Rattle.fs_rules.specs.declared.content.Content.{Content}
use Rattle.fs_rules.specs.declared.content.Content.TheVariants.{Regular, Link, Directory}
use Rattle.fs_rules.specs.declared.entry.Entry.{Entry}
use Rattle.fs_rules.specs.declared.file.File.{File}
use Rattle.fs_rules.specs.declared.plain_tree.PlainTree.{PlainTree}
use Rattle.fs_rules.specs.File.{slots_of, parent_of, kind_of, is_directory, is_link}
use Rattle.fs_rules.specs.Contents.{written}
use Rattle.fs_rules.specs.Slots.{file_named, put_name}
use Rattle.fs_rules.specs.Edits.{Changed, Made, edited, limits}
use Rattle.fs_rules.specs.Attributes.{is_set, chosen, mode_bits, is_too_large, with_attributes}
use Rattle.fs_rules.specs.Arguments.{Named, name_check, is_dots}
use Rattle.fs_rules.specs.Making.{with_name, linked, new_number, new_file, new_regular, new_directory, new_link, existing_checks, new_checks, create_checks_by, create_checks, size_alone, existing_edits, create_edits_by, create_edits, make_dir_checks, make_dir_edits, sym_link_checks, sym_link_edits}
use Rattle.fs_rules.specs.Good.{IsName, names_file, IsGood, IsStored, parent_at, naming_slots}
use Rattle.fs_laws.proofs.StatusLemmas.{ArePassed, not_so}
use Rattle.fs_laws.proofs.ContentLemmas.{written_stored, empty_stored, wider_stored}
use Rattle.fs_laws.proofs.SumLemmas.{one_where}
use Rattle.fs_laws.proofs.WholeLemmas.{named_in, due_of, due, IsSlotList, IsOwn, HasLinks, IsWhole, due_none, whole_from_good}
use Rattle.fs_laws.proofs.EditLemmas.{names_of, within_limits}
use Rattle.fs_laws.proofs.SlotLemmas.{absent_from_file}
use Rattle.fs_laws.proofs.NumberLemmas.{IsFreeNumber, new_number_free}
use Rattle.fs_laws.proofs.DirLemmas.{IsDir, IsRenamed, renamed_dir, name_from_checks}
use Rattle.fs_laws.proofs.PutLemmas.{IsPutStep, put_good}
use Rattle.fs_laws.proofs.WriteLemmas.{IsSizeFit, change_good, nothing_good, set_same}

-- ---- new files

-- a new file in itself, with its links: one, or two where it is a directory
pub record IsNew (n : ℕ) (f : File) : Type 0 where
  pub own : IsOwn f
  pub slots : slots_of f.content ≡ []
  pub due : (m : ℕ) → m ≢ 1 → due_of m f f.content ≡ 1
  pub links : (u : PlainTree) → HasLinks u f f.content
  pub parent : (k : ℕ) → parent_of f.content ≡ Some k → k ≡ n

new_mode : (mode : ℕ) → mode_bits mode ≤ 0o7777
new_mode mode = omega arith

new_size : (set : Sattr) → (is_set set.size && is_too_large set.size) ≡ false → chosen set.size 0 ≤ 16711680
new_size set fit = go (is_set set.size) refl where
  go : (b : Bool) → is_set set.size ≡ b → chosen set.size 0 ≤ 16711680
  go true is =
      let e : chosen set.size 0 ≡ set.size = ap (λ b. cond b set.size 0) is in
      let k : is_too_large set.size ≡ false = ap (λ b. b && is_too_large set.size) (sym is) ∙ fit in
      omega (arith, e, ltb-false 16711680 set.size k)
  go false is = let e : chosen set.size 0 ≡ 0 = ap (λ b. cond b set.size 0) is in omega (arith, e)

regular_new : (t : PlainTree) (m n : ℕ) (now : Stamp) (set : Sattr) (cred : Cred) → (is_set set.size && is_too_large set.size) ≡ false → IsNew n (new_regular t m now set cred)
unfolding new_file
regular_new t m n now set cred fit = record {
  own = record {
    mode = new_mode (chosen set.mode 0o100644);
    links = omega arith;
    content = (new_size set fit, wider_stored 0 (chosen set.size 0) table.empty empty_stored (omega arith), omega arith);
  };
  slots = refl;
  due = λ k other. refl;
  links = λ u. tt;
  parent = λ k is. absurd cc;
}

no_slots : IsSlotList []
no_slots = record { whole = refl; few = omega arith; names = λ i e there. absurd cc; distinct = λ i j e d there_e there_d same. absurd cc }

directory_new : (t : PlainTree) (m n : ℕ) (now : Stamp) (set : Sattr) (cred : Cred) → IsNew n (new_directory t m n now set cred)
unfolding new_file
directory_new t m n now set cred = record {
  own = record { mode = new_mode (chosen set.mode 0o755); links = omega arith; content = (refl, no_slots) };
  slots = refl;
  due = λ k other. ap (λ b. cond b 0 1) (ne_eqb k 1 other);
  links = λ u. refl;
  parent = λ k is. let same : n ≡ k = cc in sym same;
}

link_new : (t : PlainTree) (m n : ℕ) (now : Stamp) (path : List ℕ) (cred : Cred) → IsBytes path → length path ≤ 1024 → IsNew n (new_link t m now path cred)
unfolding new_file
link_new t m n now path cred bytes short = record {
  own = record {
    mode = new_mode 0o777;
    links = omega arith;
    content = (
      short,
      subst (λ (s : ℕ). IsStored s (written table.empty 0 path)) (let e : max 0 (0 + length path) ≡ length path = omega arith in e) (written_stored 0 table.empty empty_stored 0 path bytes),
      (let one : 1 ≤ 1 = omega arith in one),
    );
  };
  slots = refl;
  due = λ k other. refl;
  links = λ u. tt;
  parent = λ k is. absurd cc;
}

-- whether it has a parent, and so the links of its directory
regular_parent : (t : PlainTree) (m : ℕ) (now : Stamp) (set : Sattr) (cred : Cred) → is_some (parent_of (new_regular t m now set cred).content) ≡ false
unfolding new_file
regular_parent t m now set cred = refl

directory_parent : (t : PlainTree) (m n : ℕ) (now : Stamp) (set : Sattr) (cred : Cred) → is_some (parent_of (new_directory t m n now set cred).content) ≡ true
unfolding new_file
directory_parent t m n now set cred = refl

link_parent : (t : PlainTree) (m : ℕ) (now : Stamp) (path : List ℕ) (cred : Cred) → is_some (parent_of (new_link t m now path cred).content) ≡ false
unfolding new_file
link_parent t m now path cred = refl

no_more_links : (d f : File) → is_some (parent_of f.content) ≡ false → d.links ≡ d.links + one_where (is_some (parent_of f.content))
no_more_links d f is = let e : one_where (is_some (parent_of f.content)) ≡ 0 = ap one_where is in omega (arith, e)

one_more_link : (d f : File) → is_some (parent_of f.content) ≡ true → d.links + 1 ≡ d.links + one_where (is_some (parent_of f.content))
one_more_link d f is = let e : one_where (is_some (parent_of f.content)) ≡ 1 = ap one_where is in omega (arith, e)

-- ---- a new file with its name

-- a directory gets a name of a new file
pub record IsMaking (now : Stamp) (t : PlainTree) (n : ℕ) (d d' : File) (m : ℕ) (f : File) (e : Entry) (parent : ℕ) : Type 0 where
  pub whole : IsWhole t
  pub dir : IsDir t n d parent
  pub name : Named
  pub name_is : e.name ≡ name.name
  pub form : name_check name ≡ None
  pub plain : is_dots name.name ≡ false
  pub bytes : IsBytes name.name
  pub absent : file_named (slots_of d.content) e.name ≡ None
  pub file : e.file ≡ m
  pub renamed : IsRenamed d d' (put_name (slots_of d.content) e) parent
  pub links : d'.links ≡ d.links + one_where (is_some (parent_of f.content))
  pub free : IsFreeNumber t m
  pub new : IsNew n f

dead_counts : (t : PlainTree) (m q : ℕ) → table.get t.files m ≡ None → named_in t m q ≡ 0
dead_counts t m q dead = ap (λ (o : Option File). option_map_or (λ f. names_of q f.content) o 0) dead

dead_apart : (t : PlainTree) (m k : ℕ) (f : File) → table.get t.files m ≡ None → table.get t.files k ≡ Some f → m ≢ k
dead_apart t m k f dead live same = let e : ◌≡◌ {A = Option File} None (Some f) = sym dead ∙ ap (table.get t.files) same ∙ live in absurd cc

root_live : (t : PlainTree) (m : ℕ) → IsWhole t → table.get t.files m ≡ None → m ≢ 1
root_live t m whole dead same =
    let e : ◌≡◌ {A = Option ℕ} None (Some 1) = sym (ap (λ (o : Option File). option_and_then (λ f. parent_of f.content) o) dead) ∙ ap (parent_at t) same ∙ whole.root in
    absurd cc

making_step : (now : Stamp) (t : PlainTree) (n : ℕ) (d d' : File) (m : ℕ) (f : File) (e : Entry) (parent : ℕ) → IsMaking now t n d d' m f e parent
    → IsPutStep now t n d d' (Made m f) e parent
making_step now t n d d' m f e parent s =
    let none : due t m ≡ 0 = due_none t m s.free.dead in
    let unnamed : naming_slots t m ≡ 0 = s.whole.named m ∙ none in
    let not_root = root_live t m s.whole s.free.dead in
    record {
      whole = s.whole;
      dir = s.dir;
      name = subst IsName (sym s.name_is) (name_from_checks s.name s.form s.plain s.bytes);
      absent = absent_from_file (slots_of d.content) e.name s.absent;
      file = s.file;
      renamed = s.renamed;
      links = s.links;
      apart = dead_apart t m n d s.free.dead s.dir.there;
      not_root = not_root;
      apt = (s.free.number, s.new.own);
      none_before = λ q. dead_counts t m q s.free.dead;
      none_after = λ q. ap (λ (slots : List (Option Entry)). count_by (names_file q) slots) s.new.slots;
      dues = s.new.due m not_root ∙ (let k : 1 ≡ due t m + 1 = omega (arith, none) in k);
      turned = inr unnamed;
      own_links = λ u g is. let same : f ≡ g = cc in subst (λ h. HasLinks u h h.content) same (s.new.links u);
      parent' = λ k is. (s.new.parent k is, unnamed);
    }

making_good : (now : Stamp) (t : PlainTree) (start n : ℕ) (d d' : File) (m : ℕ) (f : File) (e : Entry) (parent : ℕ) → IsMaking now t n d d' m f e parent
    → ArePassed (limits t start (Changed n d' ∷ Made m f ∷ [])) → IsGood (edited now t (Changed n d' ∷ Made m f ∷ []))
making_good now t start n d d' m f e parent s passed = put_good now t n d d' (Made m f) e parent (making_step now t n d d' m f e parent s) start passed

-- where a file is made, a number is free
made_free : (t : PlainTree) (start n : ℕ) (d' f : File) (m : ℕ) → IsWhole t → ArePassed (limits t start (Changed n d' ∷ Made m f ∷ [])) → IsFreeNumber t (new_number t start)
made_free t start n d' f m whole passed = new_number_free t start whole.geometry (within_limits t start (Changed n d' ∷ Made m f ∷ []) passed).free

-- ---- CREATE

-- what the arguments of a call that gives a name have passed
pub record IsGiven (t : PlainTree) (n : ℕ) (d : File) (parent : ℕ) (name : Named) : Type 0 where
  pub good : IsGood t
  pub dir : IsDir t n d parent
  pub form : name_check name ≡ None
  pub bytes : IsBytes name.name

kind_regular : (c : Content) → (kind_of c == 1) ≡ true → (is_directory c ≡ false) × (is_link c ≡ false)
kind_regular (Regular blocks) h = (refl, refl)
kind_regular (Directory slots parent) h = absurd cc
kind_regular (Link blocks) h = absurd cc

none_behind : (b : Bool) → (b && false) ≡ false
none_behind true = refl
none_behind false = refl

existing_good : (now : Stamp) (t : PlainTree) (start m : ℕ) (f : File) (set : Sattr) (cred : Cred) → IsGood t → table.get t.files m ≡ Some f
    → ArePassed (existing_checks f set cred) → ArePassed (limits t start (existing_edits now set m f)) → IsGood (edited now t (existing_edits now set m f))
existing_good now t start m f set cred good there checked within = go (is_set set.size) within where
  fit : IsSizeFit f set.size
  fit =
      let kinds = kind_regular f.content (not-false (kind_of f.content == 1) (not_so 17 (not (kind_of f.content == 1)) checked.0)) in
      record {
        directory = ap (λ b. is_set set.size && b) kinds.0 ∙ none_behind (is_set set.size);
        link = ap (λ b. is_set set.size && b) kinds.1 ∙ none_behind (is_set set.size);
        small = not_so 27 (is_set set.size && is_too_large set.size) checked.1.1.0;
      }

  go : (b : Bool) → ArePassed (limits t start (cond b (Changed m (with_attributes now (size_alone set) f) ∷ []) []))
      → IsGood (edited now t (cond b (Changed m (with_attributes now (size_alone set) f) ∷ []) []))
  go true within = change_good now t start m f (with_attributes now (size_alone set) f) good
      (set_same now t m f (size_alone set) there ((whole_from_good t good).own m f there) fit) within
  go false within = nothing_good now t good

create_new_good : (now : Stamp) (t : PlainTree) (start n : ℕ) (d : File) (parent : ℕ) (name : Named) (set : Sattr) (cred : Cred) → IsGiven t n d parent name
    → is_dots name.name ≡ false → file_named (slots_of d.content) name.name ≡ None → ArePassed (new_checks set)
    → ArePassed (limits t start (create_edits_by t (new_number t start) None n d name.name set cred now))
    → IsGood (edited now t (create_edits_by t (new_number t start) None n d name.name set cred now))
create_new_good now t start n d parent name set cred g plain absent checked within =
    let m = new_number t start in
    let whole = whole_from_good t g.good in
    let e : Entry = record { name = name.name; file = m } in
    making_good now t start n d (with_name now name.name m d) m (new_regular t m now set cred) e parent (record {
      whole = whole;
      dir = g.dir;
      name = name;
      name_is = refl;
      form = g.form;
      plain = plain;
      bytes = g.bytes;
      absent = absent;
      file = refl;
      renamed = renamed_dir now (put_name (slots_of d.content) e) d parent g.dir.content;
      links = no_more_links d (new_regular t m now set cred) (regular_parent t m now set cred);
      free = made_free t start n (with_name now name.name m d) (new_regular t m now set cred) m whole within;
      new = regular_new t m n now set cred (not_so 27 (is_set set.size && is_too_large set.size) checked.1.0);
    }) within

pub create_good : (now : Stamp) (t : PlainTree) (start n : ℕ) (d : File) (parent : ℕ) (name : Named) (set : Sattr) (cred : Cred) → IsGiven t n d parent name
    → ArePassed (create_checks t d name.name set cred) → ArePassed (limits t start (create_edits t start n d name.name set cred now))
    → IsGood (edited now t (create_edits t start n d name.name set cred now))
unfolding create_checks create_edits
create_good now t start n d parent name set cred g checked within = go (file_named (slots_of d.content) name.name) refl checked.1 within where
  plain : is_dots name.name ≡ false
  plain = not_so 17 (is_dots name.name) checked.0

  at : (m : ℕ) (o : Option File) → table.get t.files m ≡ o → ArePassed (option_map_or (λ f. existing_checks f set cred) o [])
      → ArePassed (limits t start (option_map_or (existing_edits now set m) o [])) → IsGood (edited now t (option_map_or (existing_edits now set m) o []))
  at m None is checked within = nothing_good now t g.good
  at m (Some f) is checked within = existing_good now t start m f set cred g.good is checked within

  go : (o : Option ℕ) → file_named (slots_of d.content) name.name ≡ o → ArePassed (create_checks_by t o set cred)
      → ArePassed (limits t start (create_edits_by t (new_number t start) o n d name.name set cred now))
      → IsGood (edited now t (create_edits_by t (new_number t start) o n d name.name set cred now))
  go None is checked within = create_new_good now t start n d parent name set cred g plain is checked within
  go (Some m) is checked within = at m (table.get t.files m) refl checked within

-- ---- MKDIR

pub none_of_test : (o : Option ℕ) → is_some o ≡ false → o ≡ None
none_of_test None h = refl
none_of_test (Some m) h = absurd cc

pub make_dir_good : (now : Stamp) (t : PlainTree) (start n : ℕ) (d : File) (parent : ℕ) (name : Named) (set : Sattr) (cred : Cred) → IsGiven t n d parent name
    → ArePassed (make_dir_checks d name.name) → ArePassed (limits t start (make_dir_edits t start n d name.name set cred now))
    → IsGood (edited now t (make_dir_edits t start n d name.name set cred now))
unfolding make_dir_checks make_dir_edits
make_dir_good now t start n d parent name set cred g checked within =
    let m = new_number t start in
    let whole = whole_from_good t g.good in
    let e : Entry = record { name = name.name; file = m } in
    let tests = or_parts (is_dots name.name) (is_some (file_named (slots_of d.content) name.name)) (not_so 17 (is_dots name.name || is_some (file_named (slots_of d.content) name.name)) checked.0) in
    let r = renamed_dir now (put_name (slots_of d.content) e) d parent g.dir.content in
    making_good now t start n d (linked (with_name now name.name m d)) m (new_directory t m n now set cred) e parent (record {
      whole = whole;
      dir = g.dir;
      name = name;
      name_is = refl;
      form = g.form;
      plain = tests.0;
      bytes = g.bytes;
      absent = none_of_test (file_named (slots_of d.content) name.name) tests.1;
      file = refl;
      renamed = record { content = r.content; mode = r.mode; size = r.size };
      links = one_more_link d (new_directory t m n now set cred) (directory_parent t m n now set cred);
      free = made_free t start n (linked (with_name now name.name m d)) (new_directory t m n now set cred) m whole within;
      new = directory_new t m n now set cred;
    }) within

-- ---- SYMLINK

pub sym_link_good : (now : Stamp) (t : PlainTree) (start n : ℕ) (d : File) (parent : ℕ) (name : Named) (path : List ℕ) (cred : Cred) → IsGiven t n d parent name
    → IsBytes path → length path ≤ 1024 → ArePassed (sym_link_checks d name.name path) → ArePassed (limits t start (sym_link_edits t start n d name.name path cred now))
    → IsGood (edited now t (sym_link_edits t start n d name.name path cred now))
unfolding sym_link_checks sym_link_edits
sym_link_good now t start n d parent name path cred g bytes short checked within =
    let m = new_number t start in
    let whole = whole_from_good t g.good in
    let e : Entry = record { name = name.name; file = m } in
    let tests = or_parts (is_dots name.name) (is_some (file_named (slots_of d.content) name.name)) (not_so 17 (is_dots name.name || is_some (file_named (slots_of d.content) name.name)) checked.0) in
    making_good now t start n d (with_name now name.name m d) m (new_link t m now path cred) e parent (record {
      whole = whole;
      dir = g.dir;
      name = name;
      name_is = refl;
      form = g.form;
      plain = tests.0;
      bytes = g.bytes;
      absent = none_of_test (file_named (slots_of d.content) name.name) tests.1;
      file = refl;
      renamed = renamed_dir now (put_name (slots_of d.content) e) d parent g.dir.content;
      links = no_more_links d (new_link t m now path cred) (link_parent t m now path cred);
      free = made_free t start n (with_name now name.name m d) (new_link t m now path cred) m whole within;
      new = link_new t m n now path cred bytes short;
    }) within
