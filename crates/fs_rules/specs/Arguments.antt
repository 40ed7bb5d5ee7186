-- The arguments of a call, and the checks that all procedures share: handles, directories, names, access.
use Rattle.std.specs.Prelude.{ℕ, ◌==◌, nat_lt, Bool, false, not, ◌&&◌, ◌||◌, if◌then◌else◌, List, [], ◌∷◌, ◌++◌, length, map, Option, Some, None, is_some, option_and_then, bytes_eq, codes}
use Rattle.std.specs.Option.{option_map_or}
use Rattle.std.specs.List.{list_any}
use Rattle.std.specs.FinMap as table
use Rattle.rpc_msg.specs.declared.cred.Cred.{Cred}
use Rattle.nfs_proto.specs.declared.call.Call.{Call}
use Rattle.nfs_proto.specs.declared.call.Call.TheVariants.{Null, GetAttr, SetAttr, Root, Lookup, ReadLink, Read, WriteCache, Write, Create, Remove, Rename, Link, SymLink, MakeDir, RemoveDir, ReadDir, StatFs}
use Rattle.fs_rules.specs.declared.file.File.{File}
use Rattle.fs_rules.specs.declared.plain_tree.PlainTree.{PlainTree}
use Rattle.fs_rules.specs.Handle.{handle, number_in}
use Rattle.fs_rules.specs.File.{is_directory}
use Rattle.fs_rules.specs.Access.{may}
use Rattle.fs_rules.specs.Statuses.{Check, fails_where, noent, acces, notdir, nametoolong, stale}

-- ---- handles

-- the file that a handle names: it lives, and the handle is that of its number and generation
abbrev pub file_of : PlainTree → List ℕ → Option File
file_of t name = option_and_then (λ f. if bytes_eq name (handle (number_in name) f.generation) then Some f else None) (table.get t.files (number_in name))

-- what is said of the file that a handle names; another thing where it names none
abbrev pub at_file : {A : Type 0} → PlainTree → List ℕ → A → (ℕ → File → A) → A
at_file t name other said = option_map_or (said (number_in name)) (file_of t name) other

-- what is said of the file with a number
abbrev pub at_number : {A : Type 0} → PlainTree → ℕ → A → (File → A) → A
at_number t n other said = option_map_or said (table.get t.files n) other

-- the handles of a call, in the order of its arguments
abbrev pub handles_of : Call → List (List ℕ)
handles_of Null = []
handles_of (GetAttr file) = file.0 ∷ []
handles_of (SetAttr file set) = file.0 ∷ []
handles_of Root = []
handles_of (Lookup dir name) = dir.0 ∷ []
handles_of (ReadLink file) = file.0 ∷ []
handles_of (Read file offset count total) = file.0 ∷ []
handles_of WriteCache = []
handles_of (Write file begin offset total bytes) = file.0 ∷ []
handles_of (Create dir name set) = dir.0 ∷ []
handles_of (Remove dir name) = dir.0 ∷ []
handles_of (Rename from from_name to to_name) = from.0 ∷ to.0 ∷ []
handles_of (Link file dir name) = file.0 ∷ dir.0 ∷ []
handles_of (SymLink dir name path set) = dir.0 ∷ []
handles_of (MakeDir dir name set) = dir.0 ∷ []
handles_of (RemoveDir dir name) = dir.0 ∷ []
handles_of (ReadDir dir cookie count) = dir.0 ∷ []
handles_of (StatFs file) = file.0 ∷ []

-- ---- names

-- a name of a call: its directory, its bytes, the status where its form is none of a name, and the access that it needs
pub record Named : Type 0 where
  pub dir : List ℕ
  pub name : List ℕ
  pub unfit : ℕ
  pub bits : ℕ

-- a name that is looked for, with search access
abbrev pub looked_up : List ℕ → List ℕ → Named
looked_up dir name = record { dir = dir; name = name; unfit = noent; bits = 1 }

-- a name that is taken away, with write and search access
abbrev pub taken : List ℕ → List ℕ → Named
taken dir name = record { dir = dir; name = name; unfit = noent; bits = 3 }

-- a name that is given, with write and search access
abbrev pub given : List ℕ → List ℕ → Named
given dir name = record { dir = dir; name = name; unfit = acces; bits = 3 }

-- the names of a call, in order
abbrev pub names_of : Call → List Named
names_of Null = []
names_of (GetAttr file) = []
names_of (SetAttr file set) = []
names_of Root = []
names_of (Lookup dir name) = looked_up dir.0 name ∷ []
names_of (ReadLink file) = []
names_of (Read file offset count total) = []
names_of WriteCache = []
names_of (Write file begin offset total bytes) = []
names_of (Create dir name set) = given dir.0 name ∷ []
names_of (Remove dir name) = taken dir.0 name ∷ []
names_of (Rename from from_name to to_name) = taken from.0 from_name ∷ given to.0 to_name ∷ []
names_of (Link file dir name) = given dir.0 name ∷ []
names_of (SymLink dir name path set) = given dir.0 name ∷ []
names_of (MakeDir dir name set) = given dir.0 name ∷ []
names_of (RemoveDir dir name) = taken dir.0 name ∷ []
names_of (ReadDir dir cookie count) = []
names_of (StatFs file) = []

-- the directories of a call: those of its names, and the one that READDIR lists
abbrev pub directories_of : Call → List (List ℕ)
directories_of Null = []
directories_of (GetAttr file) = []
directories_of (SetAttr file set) = []
directories_of Root = []
directories_of (Lookup dir name) = dir.0 ∷ []
directories_of (ReadLink file) = []
directories_of (Read file offset count total) = []
directories_of WriteCache = []
directories_of (Write file begin offset total bytes) = []
directories_of (Create dir name set) = dir.0 ∷ []
directories_of (Remove dir name) = dir.0 ∷ []
directories_of (Rename from from_name to to_name) = from.0 ∷ to.0 ∷ []
directories_of (Link file dir name) = dir.0 ∷ []
directories_of (SymLink dir name path set) = dir.0 ∷ []
directories_of (MakeDir dir name set) = dir.0 ∷ []
directories_of (RemoveDir dir name) = dir.0 ∷ []
directories_of (ReadDir dir cookie count) = dir.0 ∷ []
directories_of (StatFs file) = []

-- whether bytes have the form of a name: they are not empty, and have no byte 0 and no slash
abbrev pub is_name_form : List ℕ → Bool
is_name_form name = nat_lt 0 (length name) && not (list_any (λ b. (b == 0) || (b == 47)) name)

-- "." and ".."
abbrev pub is_dot : List ℕ → Bool
is_dot name = bytes_eq name (codes ".")

abbrev pub is_dot_dot : List ℕ → Bool
is_dot_dot name = bytes_eq name (codes "..")

abbrev pub is_dots : List ℕ → Bool
is_dots name = is_dot name || is_dot_dot name

-- ---- the checks

-- a handle names a live file
abbrev pub handle_check : PlainTree → List ℕ → Check
handle_check t name = fails_where stale (not (is_some (file_of t name)))

-- a directory argument is a directory
abbrev pub directory_check : PlainTree → List ℕ → Check
directory_check t name = fails_where notdir (not (at_file t name false (λ n f. is_directory f.content)))

-- a name is not too long, and has the form of one
abbrev pub name_check : Named → Check
name_check n = if nat_lt 255 (length n.name) then Some nametoolong else fails_where n.unfit (not (is_name_form n.name))

-- the caller may use the directory of a name
abbrev pub access_check : PlainTree → Cred → Named → Check
access_check t cred n = fails_where acces (not (at_file t n.dir false (λ d f. may f cred n.bits)))

-- the shared checks, in their order
unfoldable pub argument_checks : PlainTree → Call → Cred → List Check
argument_checks t call cred =
    map (handle_check t) (handles_of call)
    ++ (map (directory_check t) (directories_of call) ++ (map name_check (names_of call) ++ map (access_check t cred) (names_of call)))
