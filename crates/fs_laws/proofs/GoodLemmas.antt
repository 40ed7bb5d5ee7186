-- Every call leaves a file system.
use Rattle.std.proofs.Common.{◌≡◌, ℕ, true, false, not, List, [], ◌++◌, Option, Some, None, refl, sym, ap, ◌∙◌}
use Rattle.std.specs.Option.{option_map_or}
use Rattle.std.proofs.lemmas.Bool.{not-false}
use Rattle.sfs_base.specs.Reading.{IsBytes}
use Rattle.rpc_msg.specs.declared.cred.Cred.{Cred}
use Rattle.nfs_proto.specs.declared.call.Call.{Call}
use Rattle.nfs_proto.specs.declared.call.Call.TheVariants.{Null, GetAttr, SetAttr, Root, Lookup, ReadLink, Read, WriteCache, Write, Create, Remove, Rename, Link, SymLink, MakeDir, RemoveDir, ReadDir, StatFs}
use Rattle.nfs_proto.specs.declared.handle.Handle.{Handle}
use Rattle.nfs_proto.specs.declared.sattr.Sattr.{Sattr}
use Rattle.nfs_proto.specs.declared.stamp.Stamp.{Stamp}
use Rattle.nfs_proto.specs.Arguments.{IsFit}
use Rattle.fs_rules.specs.declared.file.File.{File}
use Rattle.fs_rules.specs.declared.plain_tree.PlainTree.{PlainTree}
use Rattle.fs_rules.specs.Handle.{number_in}
use Rattle.fs_rules.specs.File.{is_directory}
use Rattle.fs_rules.specs.Statuses.{Check, first_failure}
use Rattle.fs_rules.specs.Edits.{edited, limits}
use Rattle.fs_rules.specs.Arguments.{file_of, at_file, Named, taken, given, name_check, directory_check, argument_checks}
use Rattle.fs_rules.specs.Attributes.{set_attr_checks, set_attr_edits}
use Rattle.fs_rules.specs.Writing.{write_checks, write_edits}
use Rattle.fs_rules.specs.Making.{create_checks, create_edits, make_dir_checks, make_dir_edits, sym_link_checks, sym_link_edits}
use Rattle.fs_rules.specs.Names.{link_checks, link_edits, remove_checks, remove_edits, remove_dir_checks, remove_dir_edits}
use Rattle.fs_rules.specs.Respond.{own_checks, edits_of, checks, decided, respond, HasBytes}
use Rattle.fs_rules.specs.Good.{IsGood}
use Rattle.fs_laws.specs.Laws.{GoodStaysGood}
use Rattle.fs_laws.proofs.StatusLemmas.{ArePassed, passed, passed_front, passed_back, not_so}
use Rattle.fs_laws.proofs.ToldLemmas.{live}
use Rattle.fs_laws.proofs.WriteLemmas.{nothing_good, at_file_good, set_attr_good, write_good}
use Rattle.fs_laws.proofs.DirLemmas.{IsDir, dir_content, name_from_checks}
use Rattle.fs_laws.proofs.MakeLemmas.{IsGiven, create_good, make_dir_good, sym_link_good}
use Rattle.fs_laws.proofs.LinkLemmas.{IsTaking, link_good, remove_good, remove_dir_good}
use Rattle.fs_laws.proofs.RenameLemmas.{rename_good}

-- what holds where no check of a call fails
pub record IsPassed (t : PlainTree) (call : Call) (cred : Cred) (now : Stamp) (start : ℕ) : Type 0 where
  pub arguments : ArePassed (argument_checks t call cred)
  pub own : ArePassed (own_checks t call cred)
  pub limits : ArePassed (limits t start (edits_of t call cred now start))

call_passed : (t : PlainTree) (call : Call) (cred : Cred) (now : Stamp) (start : ℕ) → first_failure (checks t call cred start (edits_of t call cred now start)) ≡ None
    → IsPassed t call cred now start
unfolding checks
call_passed t call cred now start e =
    let all = passed _ e in
    let behind = passed_back (argument_checks t call cred) (own_checks t call cred ++ limits t start (edits_of t call cred now start)) all in
    record {
      arguments = passed_front (argument_checks t call cred) _ all;
      own = passed_front (own_checks t call cred) _ behind;
      limits = passed_back (own_checks t call cred) _ behind;
    }

-- ---- directories and names of a call

-- a directory argument that passed its check is a directory
is_dir_argument : (t : PlainTree) (name : List ℕ) (d : File) → directory_check t name ≡ None → file_of t name ≡ Some d → is_directory d.content ≡ true
is_dir_argument t name d passed is =
    let test : at_file t name false (λ n f. is_directory f.content) ≡ true = not-false (at_file t name false (λ n f. is_directory f.content)) (not_so 20 (not (at_file t name false (λ n f. is_directory f.content))) passed) in
    sym (ap (λ (o : Option File). option_map_or (λ f. is_directory f.content) o false) is) ∙ test

-- what a call on one directory and one name has passed
record IsOneName (t : PlainTree) (dir : List ℕ) (name : Named) : Type 0 where
  directory : directory_check t dir ≡ None
  form : name_check name ≡ None

create_passed : (t : PlainTree) (dir : Handle) (name : List ℕ) (set : Sattr) (cred : Cred) → ArePassed (argument_checks t (Create dir name set) cred) → IsOneName t dir.0 (given dir.0 name)
unfolding argument_checks
create_passed t dir name set cred h = record { directory = h.1.0; form = h.1.1.0 }

make_dir_passed : (t : PlainTree) (dir : Handle) (name : List ℕ) (set : Sattr) (cred : Cred) → ArePassed (argument_checks t (MakeDir dir name set) cred) → IsOneName t dir.0 (given dir.0 name)
unfolding argument_checks
make_dir_passed t dir name set cred h = record { directory = h.1.0; form = h.1.1.0 }

sym_link_passed : (t : PlainTree) (dir : Handle) (name path : List ℕ) (set : Sattr) (cred : Cred) → ArePassed (argument_checks t (SymLink dir name path set) cred)
    → IsOneName t dir.0 (given dir.0 name)
unfolding argument_checks
sym_link_passed t dir name path set cred h = record { directory = h.1.0; form = h.1.1.0 }

link_passed : (t : PlainTree) (file dir : Handle) (name : List ℕ) (cred : Cred) → ArePassed (argument_checks t (Link file dir name) cred) → IsOneName t dir.0 (given dir.0 name)
unfolding argument_checks
link_passed t file dir name cred h = record { directory = h.1.1.0; form = h.1.1.1.0 }

remove_passed : (t : PlainTree) (dir : Handle) (name : List ℕ) (cred : Cred) → ArePassed (argument_checks t (Remove dir name) cred) → IsOneName t dir.0 (taken dir.0 name)
unfolding argument_checks
remove_passed t dir name cred h = record { directory = h.1.0; form = h.1.1.0 }

remove_dir_passed : (t : PlainTree) (dir : Handle) (name : List ℕ) (cred : Cred) → ArePassed (argument_checks t (RemoveDir dir name) cred) → IsOneName t dir.0 (taken dir.0 name)
unfolding argument_checks
remove_dir_passed t dir name cred h = record { directory = h.1.0; form = h.1.1.0 }

-- what a RENAME has passed
record IsTwoNames (t : PlainTree) (from : List ℕ) (to : List ℕ) (name : Named) : Type 0 where
  first : directory_check t from ≡ None
  second : directory_check t to ≡ None
  form : name_check name ≡ None

rename_passed : (t : PlainTree) (from : Handle) (from_name : List ℕ) (to : Handle) (to_name : List ℕ) (cred : Cred)
    → ArePassed (argument_checks t (Rename from from_name to to_name) cred) → IsTwoNames t from.0 to.0 (given to.0 to_name)
unfolding argument_checks
rename_passed t from from_name to to_name cred h = record { first = h.1.1.0; second = h.1.1.1.0; form = h.1.1.1.1.1.0 }

-- the directory of a name, with what was passed
record IsAtDir (t : PlainTree) (n : ℕ) (d : File) : Type 0 where
  parent : ℕ
  dir : IsDir t n d parent

at_dir : (t : PlainTree) (name : List ℕ) (d : File) → directory_check t name ≡ None → file_of t name ≡ Some d → IsAtDir t (number_in name) d
at_dir t name d passed is =
    let content = dir_content d.content (is_dir_argument t name d passed is) in
    record { parent = content.0; dir = record { there = live t name d is; content = content.1 } }

given_by : (t : PlainTree) (n : ℕ) (d : File) (name : Named) → IsGood t → (at : IsAtDir t n d) → name_check name ≡ None → IsBytes name.name → IsGiven t n d at.parent name
given_by t n d name good at form bytes = record { good = good; dir = at.dir; form = form; bytes = bytes }

taking_by : (t : PlainTree) (n : ℕ) (d : File) → IsGood t → (at : IsAtDir t n d) → IsTaking t n d at.parent
taking_by t n d good at = record { good = good; dir = at.dir }

-- ---- all calls

edits_good : (t : PlainTree) (call : Call) (cred : Cred) (now : Stamp) (start : ℕ) → IsGood t → IsFit call → HasBytes call → IsPassed t call cred now start
    → IsGood (edited now t (edits_of t call cred now start))
edits_good t Null cred now start good fit bytes passed = nothing_good now t good
edits_good t (GetAttr file) cred now start good fit bytes passed = nothing_good now t good
edits_good t (SetAttr file set) cred now start good fit bytes passed =
    at_file_good now t start file.0 (λ n f. set_attr_checks f set cred) (set_attr_edits now set) good
    (λ f is checked within. set_attr_good now t start (number_in file.0) f set cred good (live t file.0 f is) checked within) passed.own passed.limits
edits_good t Root cred now start good fit bytes passed = nothing_good now t good
edits_good t (Lookup dir name) cred now start good fit bytes passed = nothing_good now t good
edits_good t (ReadLink file) cred now start good fit bytes passed = nothing_good now t good
edits_good t (Read file offset count total) cred now start good fit bytes passed = nothing_good now t good
edits_good t WriteCache cred now start good fit bytes passed = nothing_good now t good
edits_good t (Write file begin offset total data') cred now start good fit bytes passed =
    at_file_good now t start file.0 (λ n f. write_checks f cred offset data') (write_edits now offset data') good
    (λ f is checked within. write_good now t start (number_in file.0) f offset data' cred good (live t file.0 f is) bytes checked within) passed.own passed.limits
edits_good t (Create dir name set) cred now start good fit bytes passed =
    let arguments = create_passed t dir name set cred passed.arguments in
    at_file_good now t start dir.0 (λ n d. create_checks t d name set cred) (λ n d. create_edits t start n d name set cred now) good
    (λ d is checked within.
    let at = at_dir t dir.0 d arguments.directory is in
    create_good now t start (number_in dir.0) d at.parent (given dir.0 name) set cred (given_by t (number_in dir.0) d (given dir.0 name) good at arguments.form bytes) checked within)
    passed.own passed.limits
edits_good t (Remove dir name) cred now start good fit bytes passed =
    let arguments = remove_passed t dir name cred passed.arguments in
    at_file_good now t start dir.0 (λ n d. remove_checks t d name) (λ n d. remove_edits t n d name now) good
    (λ d is checked within.
    let at = at_dir t dir.0 d arguments.directory is in
    remove_good now t start (number_in dir.0) d at.parent name (taking_by t (number_in dir.0) d good at) checked within)
    passed.own passed.limits
edits_good t (Rename from from_name to to_name) cred now start good fit bytes passed =
    let arguments = rename_passed t from from_name to to_name cred passed.arguments in
    rename_good now t start from.0 from_name to.0 to_name (record {
      good = good;
      first = λ c is. is_dir_argument t from.0 c arguments.first is;
      second = λ d is. is_dir_argument t to.0 d arguments.second is;
      to_named = λ plain. name_from_checks (given to.0 to_name) arguments.form plain bytes.1;
    }) passed.own passed.limits
edits_good t (Link file dir name) cred now start good fit bytes passed =
    let arguments = link_passed t file dir name cred passed.arguments in
    at_file_good now t start file.0 (λ m f. at_file t dir.0 [] (λ n d. link_checks f d name)) (λ m f. at_file t dir.0 [] (λ n d. link_edits m f n d name now)) good
    (λ f is_f checked within. at_file_good now t start dir.0 (λ n d. link_checks f d name) (λ n d. link_edits (number_in file.0) f n d name now) good
    (λ d is checked within.
    let at = at_dir t dir.0 d arguments.directory is in
    link_good now t start (number_in file.0) f (number_in dir.0) d at.parent (given dir.0 name)
    (given_by t (number_in dir.0) d (given dir.0 name) good at arguments.form bytes) (live t file.0 f is_f) checked within)
    checked within)
    passed.own passed.limits
edits_good t (SymLink dir name path set) cred now start good fit bytes passed =
    let arguments = sym_link_passed t dir name path set cred passed.arguments in
    at_file_good now t start dir.0 (λ n d. sym_link_checks d name path) (λ n d. sym_link_edits t start n d name path cred now) good
    (λ d is checked within.
    let at = at_dir t dir.0 d arguments.directory is in
    sym_link_good now t start (number_in dir.0) d at.parent (given dir.0 name) path cred
    (given_by t (number_in dir.0) d (given dir.0 name) good at arguments.form bytes.0) bytes.1 fit.1 checked within)
    passed.own passed.limits
edits_good t (MakeDir dir name set) cred now start good fit bytes passed =
    let arguments = make_dir_passed t dir name set cred passed.arguments in
    at_file_good now t start dir.0 (λ n d. make_dir_checks d name) (λ n d. make_dir_edits t start n d name set cred now) good
    (λ d is checked within.
    let at = at_dir t dir.0 d arguments.directory is in
    make_dir_good now t start (number_in dir.0) d at.parent (given dir.0 name) set cred
    (given_by t (number_in dir.0) d (given dir.0 name) good at arguments.form bytes) checked within)
    passed.own passed.limits
edits_good t (RemoveDir dir name) cred now start good fit bytes passed =
    let arguments = remove_dir_passed t dir name cred passed.arguments in
    at_file_good now t start dir.0 (λ n d. remove_dir_checks t d name) (λ n d. remove_dir_edits t n d name now) good
    (λ d is checked within.
    let at = at_dir t dir.0 d arguments.directory is in
    remove_dir_good now t start (number_in dir.0) d at.parent name (taking_by t (number_in dir.0) d good at) checked within)
    passed.own passed.limits
edits_good t (ReadDir dir cookie count) cred now start good fit bytes passed = nothing_good now t good
edits_good t (StatFs file) cred now start good fit bytes passed = nothing_good now t good

pub good_stays_good : GoodStaysGood
unfolding respond
good_stays_good t call cred now start good fit bytes =
    go (first_failure (checks t call cred start (edits_of t call cred now start))) refl where
      go : (c : Check) → first_failure (checks t call cred start (edits_of t call cred now start)) ≡ c
          → IsGood (decided c t call now (edits_of t call cred now start)).tree
      go (Some status) is = good
      go None is = edits_good t call cred now start good fit bytes (call_passed t call cred now start is)
