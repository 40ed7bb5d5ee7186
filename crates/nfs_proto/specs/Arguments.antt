-- The arguments of the procedures (RFC 1094, section 2.2): how they are spelled, and what reading them gives.
use Rattle.std.specs.Prelude.{◌≡◌, ◌≤◌, ℕ, List, [], ◌∷◌, ◌++◌, length, Option, Some, None, slice_get, Result, Ok, Err}
use Rattle.sfs_xdr.specs.Items.{words, opaque, opaque_var}
use Rattle.sfs_xdr.specs.Codec.{Reading, both_of, made_of, number_item, ◌⟫◌, IsNumber}
use Rattle.sfs_xdr.specs.declared.arg_fault.ArgFault.{ArgFault}
use Rattle.sfs_xdr.specs.declared.arg_fault.ArgFault.TheVariants as fault
use Rattle.nfs_proto.specs.declared.call.Call.{Call}
use Rattle.nfs_proto.specs.declared.call.Call.TheVariants.{Null, GetAttr, SetAttr, Root, Lookup, ReadLink, Read, WriteCache, Write, Create, Remove, Rename, Link, SymLink, MakeDir, RemoveDir, ReadDir, StatFs}
use Rattle.nfs_proto.specs.Types.{IsHandle, handle_item, IsName, name_item, IsPath, path_item, IsData, data_item, IsSattr, sattr_item, sattr_words}

-- ---- the grammar

-- the number of the procedure
abbrev pub procedure_of : Call → ℕ
procedure_of Null = 0
procedure_of (GetAttr file) = 1
procedure_of (SetAttr file set) = 2
procedure_of Root = 3
procedure_of (Lookup dir name) = 4
procedure_of (ReadLink file) = 5
procedure_of (Read file offset count total) = 6
procedure_of WriteCache = 7
procedure_of (Write file begin offset total bytes) = 8
procedure_of (Create dir name set) = 9
procedure_of (Remove dir name) = 10
procedure_of (Rename from from_name to to_name) = 11
procedure_of (Link file dir name) = 12
procedure_of (SymLink dir name path set) = 13
procedure_of (MakeDir dir name set) = 14
procedure_of (RemoveDir dir name) = 15
procedure_of (ReadDir dir cookie count) = 16
procedure_of (StatFs file) = 17

-- what the arguments of a call are spelled as
abbrev pub IsArguments : Call → List ℕ → Type 0
IsArguments Null item = item ≡ []
IsArguments (GetAttr file) item = IsHandle file item
IsArguments (SetAttr file set) item = (IsHandle file ⟫ IsSattr set) item
IsArguments Root item = item ≡ []
IsArguments (Lookup dir name) item = (IsHandle dir ⟫ IsName name) item
IsArguments (ReadLink file) item = IsHandle file item
IsArguments (Read file offset count total) item = (IsHandle file ⟫ IsNumber offset ⟫ IsNumber count ⟫ IsNumber total) item
IsArguments WriteCache item = item ≡ []
IsArguments (Write file begin offset total bytes) item = (IsHandle file ⟫ IsNumber begin ⟫ IsNumber offset ⟫ IsNumber total ⟫ IsData bytes) item
IsArguments (Create dir name set) item = (IsHandle dir ⟫ IsName name ⟫ IsSattr set) item
IsArguments (Remove dir name) item = (IsHandle dir ⟫ IsName name) item
IsArguments (Rename from from_name to to_name) item = (IsHandle from ⟫ IsName from_name ⟫ IsHandle to ⟫ IsName to_name) item
IsArguments (Link file dir name) item = (IsHandle file ⟫ IsHandle dir ⟫ IsName name) item
IsArguments (SymLink dir name path set) item = (IsHandle dir ⟫ IsName name ⟫ IsPath path ⟫ IsSattr set) item
IsArguments (MakeDir dir name set) item = (IsHandle dir ⟫ IsName name ⟫ IsSattr set) item
IsArguments (RemoveDir dir name) item = (IsHandle dir ⟫ IsName name) item
IsArguments (ReadDir dir cookie count) item = (IsHandle dir ⟫ IsNumber cookie ⟫ IsNumber count) item
IsArguments (StatFs file) item = IsHandle file item

-- ---- what reading gives

-- nothing at all
abbrev pub nothing : Reading (Unit {0})
nothing bytes = Ok (tt, bytes)

unfoldable pub null_of : Reading Call
null_of = made_of (λ u. Null) nothing

unfoldable pub get_attr_of : Reading Call
get_attr_of = made_of (λ p. GetAttr p) (handle_item)

unfoldable pub set_attr_of : Reading Call
set_attr_of = made_of (λ p. SetAttr p.0 p.1) (both_of handle_item sattr_item)

unfoldable pub root_of : Reading Call
root_of = made_of (λ u. Root) nothing

unfoldable pub lookup_of : Reading Call
lookup_of = made_of (λ p. Lookup p.0 p.1) (both_of handle_item name_item)

unfoldable pub read_link_of : Reading Call
read_link_of = made_of (λ p. ReadLink p) (handle_item)

unfoldable pub read_of : Reading Call
read_of = made_of (λ p. Read p.0 p.1.0 p.1.1.0 p.1.1.1) (both_of handle_item (both_of number_item (both_of number_item number_item)))

unfoldable pub write_cache_of : Reading Call
write_cache_of = made_of (λ u. WriteCache) nothing

unfoldable pub write_of : Reading Call
write_of = made_of (λ p. Write p.0 p.1.0 p.1.1.0 p.1.1.1.0 p.1.1.1.1) (both_of handle_item (both_of number_item (both_of number_item (both_of number_item data_item))))

unfoldable pub create_of : Reading Call
create_of = made_of (λ p. Create p.0 p.1.0 p.1.1) (both_of handle_item (both_of name_item sattr_item))

unfoldable pub remove_of : Reading Call
remove_of = made_of (λ p. Remove p.0 p.1) (both_of handle_item name_item)

unfoldable pub rename_of : Reading Call
rename_of = made_of (λ p. Rename p.0 p.1.0 p.1.1.0 p.1.1.1) (both_of handle_item (both_of name_item (both_of handle_item name_item)))

unfoldable pub link_of : Reading Call
link_of = made_of (λ p. Link p.0 p.1.0 p.1.1) (both_of handle_item (both_of handle_item name_item))

unfoldable pub sym_link_of : Reading Call
sym_link_of = made_of (λ p. SymLink p.0 p.1.0 p.1.1.0 p.1.1.1) (both_of handle_item (both_of name_item (both_of path_item sattr_item)))

unfoldable pub make_dir_of : Reading Call
make_dir_of = made_of (λ p. MakeDir p.0 p.1.0 p.1.1) (both_of handle_item (both_of name_item sattr_item))

unfoldable pub remove_dir_of : Reading Call
remove_dir_of = made_of (λ p. RemoveDir p.0 p.1) (both_of handle_item name_item)

unfoldable pub read_dir_of : Reading Call
read_dir_of = made_of (λ p. ReadDir p.0 p.1.0 p.1.1) (both_of handle_item (both_of number_item number_item))

unfoldable pub stat_fs_of : Reading Call
stat_fs_of = made_of (λ p. StatFs p) (handle_item)

-- the readers of the procedures, in their order
abbrev pub readers : List (Reading Call)
readers =
    null_of ∷ get_attr_of ∷ set_attr_of ∷ root_of ∷ lookup_of ∷ read_link_of ∷ read_of ∷ write_cache_of ∷ write_of ∷ create_of ∷ remove_of ∷ rename_of ∷ link_of ∷ sym_link_of ∷ make_dir_of ∷ remove_dir_of ∷ read_dir_of ∷ stat_fs_of ∷ []

-- what reading gives where there is such a procedure
abbrev pub read_by : Option (Reading Call) → Reading Call
read_by None bytes = Err tt
read_by (Some read) bytes = read bytes

-- a value that was read, without what follows it
abbrev pub value_of : Result (Call × List ℕ) (Unit {0}) → Result Call ArgFault
value_of (Ok call) = Ok call.0
value_of (Err e) = Err fault.Garbage

-- the arguments of a procedure
unfoldable pub arguments_of : ℕ → Reading Call
arguments_of procedure = read_by (slice_get readers procedure)

-- what reading the arguments of a procedure gives: they are taken from the front, and what follows them is left
abbrev pub told : Option (Reading Call) → List ℕ → Result Call ArgFault
told None bytes = Err fault.NoProcedure
told (Some read) bytes = value_of (read bytes)

unfoldable pub args_of : ℕ → List ℕ → Result Call ArgFault
args_of procedure bytes = told (slice_get readers procedure) bytes

-- ---- what a writer spells

abbrev pub arguments_spelling : Call → List ℕ
arguments_spelling Null = []
arguments_spelling (GetAttr file) = opaque file.0
arguments_spelling (SetAttr file set) = opaque file.0 ++ words (sattr_words set)
arguments_spelling Root = []
arguments_spelling (Lookup dir name) = opaque dir.0 ++ opaque_var name
arguments_spelling (ReadLink file) = opaque file.0
arguments_spelling (Read file offset count total) = opaque file.0 ++ words (offset ∷ count ∷ total ∷ [])
arguments_spelling WriteCache = []
arguments_spelling (Write file begin offset total bytes) = opaque file.0 ++ (words (begin ∷ offset ∷ total ∷ []) ++ opaque_var bytes)
arguments_spelling (Create dir name set) = opaque dir.0 ++ (opaque_var name ++ words (sattr_words set))
arguments_spelling (Remove dir name) = opaque dir.0 ++ opaque_var name
arguments_spelling (Rename from from_name to to_name) = opaque from.0 ++ (opaque_var from_name ++ (opaque to.0 ++ opaque_var to_name))
arguments_spelling (Link file dir name) = opaque file.0 ++ (opaque dir.0 ++ opaque_var name)
arguments_spelling (SymLink dir name path set) = opaque dir.0 ++ (opaque_var name ++ (opaque_var path ++ words (sattr_words set)))
arguments_spelling (MakeDir dir name set) = opaque dir.0 ++ (opaque_var name ++ words (sattr_words set))
arguments_spelling (RemoveDir dir name) = opaque dir.0 ++ opaque_var name
arguments_spelling (ReadDir dir cookie count) = opaque dir.0 ++ words (cookie ∷ count ∷ [])
arguments_spelling (StatFs file) = opaque file.0

-- names, paths and data are not too long
abbrev pub IsFit : Call → Type 0
IsFit Null = Unit {0}
IsFit (GetAttr file) = Unit {0}
IsFit (SetAttr file set) = Unit {0}
IsFit Root = Unit {0}
IsFit (Lookup dir name) = length name ≤ 1024
IsFit (ReadLink file) = Unit {0}
IsFit (Read file offset count total) = Unit {0}
IsFit WriteCache = Unit {0}
IsFit (Write file begin offset total bytes) = length bytes ≤ 8192
IsFit (Create dir name set) = length name ≤ 1024
IsFit (Remove dir name) = length name ≤ 1024
IsFit (Rename from from_name to to_name) = (length from_name ≤ 1024) × (length to_name ≤ 1024)
IsFit (Link file dir name) = length name ≤ 1024
IsFit (SymLink dir name path set) = (length name ≤ 1024) × (length path ≤ 1024)
IsFit (MakeDir dir name set) = length name ≤ 1024
IsFit (RemoveDir dir name) = length name ≤ 1024
IsFit (ReadDir dir cookie count) = Unit {0}
IsFit (StatFs file) = Unit {0}
