-- Checks: the statuses with which they fail, and what holds where none fails.
use Rattle.std.proofs.Common.{◌≡◌, ℕ, Bool, true, false, cond, not, List, [], ◌∷◌, ◌++◌, length, map, Option, Some, None, refl}
use Rattle.std.specs.Prelude.{nat_lt}
use Rattle.std.specs.Option.{option_map_or}
use Rattle.std.specs.FinMap as table
use Rattle.rpc_msg.specs.declared.cred.Cred.{Cred}
use Rattle.nfs_proto.specs.declared.call.Call.{Call}
use Rattle.nfs_proto.specs.declared.call.Call.TheVariants.{Null, GetAttr, SetAttr, Root, Lookup, ReadLink, Read, WriteCache, Write, Create, Remove, Rename, Link, SymLink, MakeDir, RemoveDir, ReadDir, StatFs}
use Rattle.nfs_proto.specs.declared.sattr.Sattr.{Sattr}
use Rattle.nfs_proto.specs.Answers.{is_fault}
use Rattle.fs_rules.specs.declared.file.File.{File}
use Rattle.fs_rules.specs.declared.plain_tree.PlainTree.{PlainTree}
use Rattle.fs_rules.specs.File.{slots_of}
use Rattle.fs_rules.specs.Slots.{file_named}
use Rattle.fs_rules.specs.Statuses.{Check, fails_where, first_failure, nametoolong}
use Rattle.fs_rules.specs.Edits.{Edit, limits}
use Rattle.fs_rules.specs.Arguments.{file_of, handles_of, directories_of, names_of, Named, looked_up, taken, given, name_check, handle_check, directory_check, access_check, argument_checks, is_name_form}
use Rattle.fs_rules.specs.Attributes.{set_attr_checks}
use Rattle.fs_rules.specs.Making.{create_checks, create_checks_by, make_dir_checks, sym_link_checks, existing_checks}
use Rattle.fs_rules.specs.Names.{Move, move_checks, is_same, link_checks, remove_checks, remove_dir_checks, rename_checks}
use Rattle.fs_rules.specs.Respond.{own_checks, checks, move_by}

-- ---- where none fails

-- no check of a list fails
abbrev pub ArePassed : List Check → Type 0
ArePassed [] = Unit {0}
ArePassed (c ∷ cs) = (c ≡ None) × ArePassed cs

pub passed : (cs : List Check) → first_failure cs ≡ None → ArePassed cs
unfolding first_failure
passed [] e = tt
passed (Some s ∷ cs) e = absurd cc
passed (None ∷ cs) e = (refl, passed cs e)

pub passed_front : (xs ys : List Check) → ArePassed (xs ++ ys) → ArePassed xs
passed_front [] ys h = tt
passed_front (x ∷ xs) ys h = (h.0, passed_front xs ys h.1)

pub passed_back : (xs ys : List Check) → ArePassed (xs ++ ys) → ArePassed ys
passed_back [] ys h = h
passed_back (x ∷ xs) ys h = passed_back xs ys h.1

-- the test of a check that does not fail
pub not_so : (s : ℕ) (test : Bool) → fails_where s test ≡ None → test ≡ false
not_so s true e = absurd cc
not_so s false e = refl

-- ---- statuses

-- a check fails, if it fails, with a status of RFC 1094
abbrev pub HasStatus : Check → Type 0
HasStatus None = Unit {0}
HasStatus (Some s) = is_fault s ≡ true

abbrev pub HaveStatuses : List Check → Type 0
HaveStatuses [] = Unit {0}
HaveStatuses (c ∷ cs) = HasStatus c × HaveStatuses cs

fails : (s : ℕ) (test : Bool) → is_fault s ≡ true → HasStatus (fails_where s test)
fails s true is = is
fails s false is = tt

pub first_has : (cs : List Check) → HaveStatuses cs → HasStatus (first_failure cs)
unfolding first_failure
first_has [] h = tt
first_has (Some s ∷ cs) h = h.0
first_has (None ∷ cs) h = first_has cs h.1

have_append : (xs ys : List Check) → HaveStatuses xs → HaveStatuses ys → HaveStatuses (xs ++ ys)
have_append [] ys h k = k
have_append (x ∷ xs) ys h k = (h.0, have_append xs ys h.1 k)

have_map : {X : Type 0} (f : X → Check) → ((x : X) → HasStatus (f x)) → (xs : List X) → HaveStatuses (map f xs)
have_map f each [] = tt
have_map f each (x ∷ xs) = (each x, have_map f each xs)

-- what is asked of a file that may be none
have_or : {X : Type 0} (said : X → List Check) → ((x : X) → HaveStatuses (said x)) → (o : Option X) → HaveStatuses (option_map_or said o [])
have_or said each None = tt
have_or said each (Some x) = each x

have_if : (b : Bool) (cs ds : List Check) → HaveStatuses cs → HaveStatuses ds → HaveStatuses (cond b cs ds)
have_if true cs ds h k = h
have_if false cs ds h k = k

-- ---- the arguments

name_has : (n : Named) → is_fault n.unfit ≡ true → HasStatus (name_check n)
name_has n is = go (nat_lt 255 (length n.name)) (not (is_name_form n.name)) where
  go : (b c : Bool) → HasStatus (cond b (Some nametoolong) (fails_where n.unfit c))
  go true c = refl
  go false true = is
  go false false = tt

names_have : (call : Call) → HaveStatuses (map name_check (names_of call))
names_have Null = tt
names_have (GetAttr file) = tt
names_have (SetAttr file set) = tt
names_have Root = tt
names_have (Lookup dir name) = (name_has (looked_up dir.0 name) refl, tt)
names_have (ReadLink file) = tt
names_have (Read file offset count total) = tt
names_have WriteCache = tt
names_have (Write file begin offset total bytes) = tt
names_have (Create dir name set) = (name_has (given dir.0 name) refl, tt)
names_have (Remove dir name) = (name_has (taken dir.0 name) refl, tt)
names_have (Rename from from_name to to_name) = (name_has (taken from.0 from_name) refl, (name_has (given to.0 to_name) refl, tt))
names_have (Link file dir name) = (name_has (given dir.0 name) refl, tt)
names_have (SymLink dir name path set) = (name_has (given dir.0 name) refl, tt)
names_have (MakeDir dir name set) = (name_has (given dir.0 name) refl, tt)
names_have (RemoveDir dir name) = (name_has (taken dir.0 name) refl, tt)
names_have (ReadDir dir cookie count) = tt
names_have (StatFs file) = tt

arguments_have : (t : PlainTree) (call : Call) (cred : Cred) → HaveStatuses (argument_checks t call cred)
unfolding argument_checks
arguments_have t call cred =
    have_append _ _ (have_map (handle_check t) (λ h. fails 70 _ refl) (handles_of call))
    (have_append _ _ (have_map (directory_check t) (λ h. fails 20 _ refl) (directories_of call))
    (have_append _ _ (names_have call) (have_map (access_check t cred) (λ n. fails 13 _ refl) (names_of call))))

-- ---- each procedure

set_attr_have : (f : File) (set : Sattr) (cred : Cred) → HaveStatuses (set_attr_checks f set cred)
unfolding set_attr_checks
set_attr_have f set cred =
    (fails 1 _ refl, (fails 1 _ refl, (fails 1 _ refl, (fails 21 _ refl, (fails 6 _ refl, (fails 13 _ refl, (fails 27 _ refl, tt)))))))

create_by_have : (t : PlainTree) (there : Option ℕ) (set : Sattr) (cred : Cred) → HaveStatuses (create_checks_by t there set cred)
create_by_have t None set cred = (fails 6 _ refl, (fails 27 _ refl, tt))
create_by_have t (Some m) set cred =
    have_or (λ f. existing_checks f set cred) (λ f. (fails 17 _ refl, (fails 13 _ refl, (fails 27 _ refl, tt)))) (table.get t.files m)

create_have : (t : PlainTree) (d : File) (name : List ℕ) (set : Sattr) (cred : Cred) → HaveStatuses (create_checks t d name set cred)
unfolding create_checks
create_have t d name set cred = (fails 17 _ refl, create_by_have t (file_named (slots_of d.content) name) set cred)

make_dir_have : (d : File) (name : List ℕ) → HaveStatuses (make_dir_checks d name)
unfolding make_dir_checks
make_dir_have d name = (fails 17 _ refl, tt)

sym_link_have : (d : File) (name path : List ℕ) → HaveStatuses (sym_link_checks d name path)
unfolding sym_link_checks
sym_link_have d name path = (fails 17 _ refl, (fails 2 _ refl, tt))

link_have : (f d : File) (name : List ℕ) → HaveStatuses (link_checks f d name)
unfolding link_checks
link_have f d name = (fails 1 _ refl, (fails 17 _ refl, tt))

remove_have : (t : PlainTree) (d : File) (name : List ℕ) → HaveStatuses (remove_checks t d name)
unfolding remove_checks
remove_have t d name = (fails 21 _ refl, (fails 2 _ refl, (fails 21 _ refl, tt)))

remove_dir_have : (t : PlainTree) (d : File) (name : List ℕ) → HaveStatuses (remove_dir_checks t d name)
unfolding remove_dir_checks
remove_dir_have t d name = (fails 13 _ refl, (fails 2 _ refl, (fails 20 _ refl, (fails 66 _ refl, tt))))

move_have : (t : PlainTree) (m : Move) → HaveStatuses (cond (is_same m) [] (move_checks t m))
move_have t m = have_if (is_same m) [] (move_checks t m) tt (fails 20 _ refl, (fails 21 _ refl, (fails 66 _ refl, (fails 63 _ refl, (fails 5 _ refl, tt)))))

rename_have : (t : PlainTree) (move : Option Move) (from_name to_name : List ℕ) → HaveStatuses (rename_checks t move from_name to_name)
unfolding rename_checks
rename_have t move from_name to_name =
    (fails 13 _ refl, (fails 2 _ refl, have_or (λ m. cond (is_same m) [] (move_checks t m)) (move_have t) move))

own_have : (t : PlainTree) (call : Call) (cred : Cred) → HaveStatuses (own_checks t call cred)
own_have t Null cred = tt
own_have t (GetAttr file) cred = tt
own_have t (SetAttr file set) cred = have_or _ (λ f. set_attr_have f set cred) (file_of t file.0)
own_have t Root cred = tt
own_have t (Lookup dir name) cred = have_or _ (λ f. (fails 2 _ refl, tt)) (file_of t dir.0)
own_have t (ReadLink file) cred = have_or _ (λ f. (fails 6 _ refl, tt)) (file_of t file.0)
own_have t (Read file offset count total) cred = have_or _ (λ f. (fails 21 _ refl, (fails 6 _ refl, (fails 13 _ refl, tt)))) (file_of t file.0)
own_have t WriteCache cred = tt
own_have t (Write file begin offset total bytes) cred =
    have_or _ (λ f. (fails 21 _ refl, (fails 6 _ refl, (fails 13 _ refl, (fails 27 _ refl, tt))))) (file_of t file.0)
own_have t (Create dir name set) cred = have_or _ (λ d. create_have t d name set cred) (file_of t dir.0)
own_have t (Remove dir name) cred = have_or _ (λ d. remove_have t d name) (file_of t dir.0)
own_have t (Rename from from_name to to_name) cred = rename_have t (move_by t from.0 from_name to.0 to_name) from_name to_name
own_have t (Link file dir name) cred =
    have_or _ (λ f. have_or (λ d. link_checks f d name) (λ d. link_have f d name) (file_of t dir.0)) (file_of t file.0)
own_have t (SymLink dir name path set) cred = have_or _ (λ d. sym_link_have d name path) (file_of t dir.0)
own_have t (MakeDir dir name set) cred = have_or _ (λ d. make_dir_have d name) (file_of t dir.0)
own_have t (RemoveDir dir name) cred = have_or _ (λ d. remove_dir_have t d name) (file_of t dir.0)
own_have t (ReadDir dir cookie count) cred = have_or _ (λ d. (fails 13 _ refl, tt)) (file_of t dir.0)
own_have t (StatFs file) cred = tt

limits_have : (t : PlainTree) (start : ℕ) (edits : List Edit) → HaveStatuses (limits t start edits)
unfolding limits
limits_have t start edits = (fails 27 _ refl, (fails 28 _ refl, (fails 28 _ refl, (fails 28 _ refl, (fails 28 _ refl, tt)))))

pub checks_have : (t : PlainTree) (call : Call) (cred : Cred) (start : ℕ) (edits : List Edit) → HaveStatuses (checks t call cred start edits)
unfolding checks
checks_have t call cred start edits =
    have_append _ _ (arguments_have t call cred) (have_append _ _ (own_have t call cred) (limits_have t start edits))
