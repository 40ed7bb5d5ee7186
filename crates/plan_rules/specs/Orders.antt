-- The order in which each procedure looks and checks (docs/FORMATS.md, "What a call wants").
use Rattle.std.specs.Prelude.{ℕ, ◌+◌, ◌-◌, ◌%◌, ◌==◌, nat_lt, nat_le, min, Bool, true, false, not, ◌&&◌, ◌||◌, if◌then◌else◌, List, [], ◌∷◌, ◌++◌, length, map, flat_map, Option, Some, is_some, is_none, unwrap_or}
use Rattle.std.specs.Option.{option_map_or}
use Rattle.rpc_msg.specs.declared.cred.Cred.{Cred}
use Rattle.nfs_proto.specs.declared.call.Call.{Call}
use Rattle.nfs_proto.specs.declared.call.Call.TheVariants.{Null, GetAttr, SetAttr, Root, Lookup, ReadLink, Read, WriteCache, Write, Create, Remove, Rename, Link, SymLink, MakeDir, RemoveDir, ReadDir, StatFs}
use Rattle.nfs_proto.specs.declared.sattr.Sattr.{Sattr}
use Rattle.fs_layout.specs.declared.attrs.Attrs.{Attrs}
use Rattle.fs_rules.specs.Handle.{number_in}
use Rattle.fs_rules.specs.Access.{may}
use Rattle.fs_rules.specs.File.{is_directory}
use Rattle.fs_rules.specs.Arguments.{Named, handles_of, directories_of, names_of, name_check, is_dots}
use Rattle.fs_rules.specs.Attributes.{is_set, sets_something, set_attr_checks}
use Rattle.fs_rules.specs.Making.{existing_checks, new_checks}
use Rattle.fs_rules.specs.Names.{one_where}
use Rattle.fs_rules.specs.Reading.{read_link_checks, read_checks, read_dir_checks}
use Rattle.fs_rules.specs.Statuses.{Check, fails_where, stale, noent, acces, exist, notdir, isdir, notempty}
use Rattle.fs_rules.specs.Writing.{is_nothing, write_checks}
use Rattle.fs_checks.specs.declared.removal.Removal.{Removal}
use Rattle.fs_checks.specs.declared.removal.Removal.TheVariants as removal
use Rattle.fs_checks.specs.Removals.{dots_status, removal_row}
use Rattle.fs_checks.specs.Naming.{link_row, way_row}
use Rattle.node_cache.specs.declared.held.Held.{Held}
use Rattle.node_cache.specs.declared.want.Want.{Want}
use Rattle.plan_rules.specs.declared.look.Look.{Look}
use Rattle.plan_rules.specs.declared.look.Look.TheVariants.{Record}
use Rattle.plan_rules.specs.Steps.{Step, Looks, Checks, wanted_in, looks_in}
use Rattle.plan_rules.specs.Told.{at_record, at_number, file_of, at_handle, found}
use Rattle.plan_rules.specs.Names.{name_steps, list_steps, record_steps, target, parent_steps, leads_up, is_on_way}
use Rattle.plan_rules.specs.Blocks.{whole}
use Rattle.plan_rules.specs.Room.{new_number}
use Rattle.plan_rules.specs.Changes.{Changes, nothing, reads, change_steps, need_of, resizes, writes, gets_name, freed_where}

-- ---- arguments

-- the checks of the rules, of what the records tell: a handle names a live file, a directory is one, and the caller may use
-- the directory of a name
abbrev pub handle_check : Held → List ℕ → Check
handle_check held name = fails_where stale (not (is_some (file_of held name)))

abbrev pub directory_check : Held → List ℕ → Check
directory_check held name = fails_where notdir (not (at_handle held name false (λ n f. is_directory f.content)))

abbrev pub access_check : Held → Cred → Named → Check
access_check held cred n = fails_where acces (not (at_handle held n.dir false (λ d f. may f cred n.bits)))

-- the record of each handle, and then the other checks that all procedures share
abbrev pub handle_steps : Held → List ℕ → List Step
handle_steps held name = Looks (Record (number_in name)) ∷ Checks (handle_check held name) ∷ []

abbrev pub argument_steps : Held → Call → Cred → List Step
argument_steps held call cred =
    flat_map (handle_steps held) (handles_of call)
    ++ map Checks
    (map (directory_check held) (directories_of call) ++ (map name_check (names_of call) ++ map (access_check held cred) (names_of call)))

-- ---- reading

-- "." and ".." are looked for in no slot
abbrev pub lookup_steps : Held → ℕ → List ℕ → List Step
lookup_steps held n name =
    (if is_dots name then [] else name_steps held n name)
    ++ (Checks (fails_where noent (is_none (target held n name))) ∷ record_steps (target held n name))

-- ---- a new name

-- the name is not "." or ".." and not there
abbrev pub new_name_steps : Held → ℕ → List ℕ → List Step
new_name_steps held n name =
    Checks (fails_where exist (is_dots name)) ∷ name_steps held n name ++ (Checks (fails_where exist (is_some (found held n name))) ∷ [])

-- of a file that is there the size alone is set; a free record is that of no regular file
abbrev pub existing_steps : Held → ℕ → Sattr → Cred → ℕ → List Step
existing_steps held start set cred m =
    Looks (Record m)
    ∷ at_number held m (Checks (Some exist) ∷ []) (λ f. map Checks (existing_checks f set cred)
    ++ change_steps held start (if is_set set.size then resizes held m f set.size else nothing))

abbrev pub create_steps : Held → ℕ → Sattr → Cred → ℕ → List ℕ → List Step
create_steps held start set cred n name =
    Checks (fails_where exist (is_dots name))
    ∷ name_steps held n name
    ++ option_map_or
    (existing_steps held start set cred)
    (found held n name)
    (map Checks (new_checks set) ++ change_steps held start (record (gets_name held n) { makes = true }))

-- a new directory is a link more to its parent
abbrev pub make_dir_changes : Held → ℕ → Changes
make_dir_changes held n = record (gets_name held n) { links = at_record held n 0 (λ a. a.links + 1); makes = true }

-- a new link gets a block for its path and a chaining block that refers to it, behind what its directory gets
abbrev pub sym_link_changes : Held → ℕ → ℕ → Changes
sym_link_changes held start n =
    record (gets_name held n) { makes = true; needs = (gets_name held n).needs ++ need_of (unwrap_or (new_number held start) 0) 2 ∷ [] }

-- a file is changed with its new directory
abbrev pub link_changes : Held → ℕ → ℕ → Changes
link_changes held m n = record (gets_name held n) { rises = n ∷ m ∷ []; links = at_record held m 0 (λ a. a.links + 1) }

-- ---- a name less

-- whether a file goes with this name: RMDIR frees a directory, REMOVE another file with its last link
abbrev pub is_last : Removal → Attrs → Bool
is_last removal.File a = nat_le a.links 1
is_last removal.Directory a = true

-- a file loses a name
abbrev pub loses_name : List ℕ → ℕ → Bool → Changes
loses_name rises m last =
    record nothing { rises = rises; touched = freed_where last m; given_up = map whole (freed_where last m); freed = freed_where last m }

abbrev pub removal_steps : Held → ℕ → Removal → ℕ → List ℕ → List Step
removal_steps held start r n name =
    Checks (fails_where (dots_status r) (is_dots name))
    ∷ name_steps held n name
    ++ (Checks (fails_where noent (is_none (found held n name)))
    ∷ (record_steps (found held n name)
    ++ option_map_or
    (λ m. at_record held m [] (λ a. map Checks (removal_row r (a.kind == 2) (nat_lt 0 a.names)) ++ change_steps held start (loses_name (n ∷ m ∷ []) m (is_last r a))))
    (found held n name)
    []))

-- ---- RENAME

-- what it moves: the directories, the file, and the one that has the second name
pub record Moving : Type 0 where
  pub from : ℕ
  pub to : ℕ
  pub source : ℕ
  pub replaced : Option ℕ

-- whether a record is that of a directory
abbrev pub is_dir : Held → ℕ → Bool
is_dir held n = at_record held n false (λ a. a.kind == 2)

-- a directory goes from one directory to another
abbrev pub changes_parent : Held → Moving → Bool
changes_parent held m = is_dir held m.source && not (m.from == m.to)

-- the file that has the second name may be replaced
abbrev pub over_checks : Held → Moving → ℕ → List Check
over_checks held m r =
    fails_where notdir (is_dir held m.source && not (is_dir held r))
    ∷ fails_where isdir (not (is_dir held m.source) && is_dir held r)
    ∷ fails_where notempty (at_record held r false (λ a. nat_lt 0 a.names))
    ∷ []

-- the way up from the second directory has at most 200 moves, and the source is not on it
abbrev pub way_steps : Held → Moving → List Step
way_steps held m =
    if changes_parent held m
    then parent_steps held m.to 200 ++ map Checks (way_row (leads_up held m.to 200) (is_on_way held m.source m.to 200))
    else []

-- the second directory gets a link with a directory that is moved, and loses one with a directory that is replaced
abbrev pub links_of_second : Held → Moving → ℕ
links_of_second held m =
    at_record held m.to 0 (λ a. a.links + one_where (changes_parent held m) - option_map_or (λ r. one_where (is_dir held r)) m.replaced 0)

-- whether a replaced file is freed
abbrev pub is_replaced_last : Held → ℕ → Bool
is_replaced_last held r = is_dir held r || at_record held r false (λ a. nat_le a.links 1)

abbrev pub move_changes : Held → Moving → Changes
move_changes held m =
    option_map_or
    (λ r. record (loses_name (m.from ∷ m.to ∷ m.source ∷ r ∷ []) r (is_replaced_last held r)) { links = links_of_second held m })
    m.replaced
    (record (gets_name held m.to) { rises = m.from ∷ m.to ∷ m.source ∷ []; links = links_of_second held m })

-- two names of one file change nothing
abbrev pub move_steps : Held → ℕ → Moving → List Step
move_steps held start m =
    if option_map_or (λ r. r == m.source) m.replaced false
    then []
    else
    map Checks (option_map_or (over_checks held m) m.replaced [])
    ++ (way_steps held m ++ change_steps held start (move_changes held m))

abbrev pub rename_steps : Held → ℕ → ℕ → List ℕ → ℕ → List ℕ → List Step
rename_steps held start from from_name to to_name =
    Checks (fails_where acces (is_dots from_name || is_dots to_name))
    ∷ name_steps held from from_name
    ++ (Checks (fails_where noent (is_none (found held from from_name)))
    ∷ name_steps held to to_name
    ++ (record_steps (found held from from_name)
    ++ (record_steps (found held to to_name)
    ++ option_map_or
    (λ s. move_steps held start (record { from = from; to = to; source = s; replaced = found held to to_name }))
    (found held from from_name)
    [])))

-- ---- all procedures

-- the steps of each procedure behind those of its arguments
abbrev pub own_steps : Held → ℕ → Call → Cred → List Step
own_steps held start Null cred = []
own_steps held start (GetAttr file) cred = []
own_steps held start (SetAttr file set) cred =
    at_handle held file.0 [] (λ n f. map Checks (set_attr_checks f set cred)
    ++ change_steps held start (if sets_something set then resizes held n f set.size else nothing))
own_steps held start Root cred = []
own_steps held start (Lookup dir name) cred = lookup_steps held (number_in dir.0) name
own_steps held start (ReadLink file) cred =
    at_handle held file.0 [] (λ n f. map Checks (read_link_checks f) ++ change_steps held start (reads n (nat_lt 0 f.size)))
own_steps held start (Read file offset count total) cred =
    at_handle held file.0 [] (λ n f. map Checks (read_checks f cred)
    ++ change_steps held start (reads n (nat_lt 0 (min count (min 8192 (f.size - offset))))))
own_steps held start WriteCache cred = []
own_steps held start (Write file begin offset total bytes) cred =
    at_handle held file.0 [] (λ n f. map Checks (write_checks f cred offset bytes)
    ++ change_steps held start (if is_nothing bytes then nothing else writes held n offset bytes))
own_steps held start (Create dir name set) cred = create_steps held start set cred (number_in dir.0) name
own_steps held start (Remove dir name) cred = removal_steps held start removal.File (number_in dir.0) name
own_steps held start (Rename from from_name to to_name) cred = rename_steps held start (number_in from.0) from_name (number_in to.0) to_name
own_steps held start (Link file dir name) cred =
    at_handle held file.0 [] (λ m f. map Checks (link_row f (is_dots name)) ++ (new_name_steps held (number_in dir.0) name
    ++ change_steps held start (link_changes held m (number_in dir.0))))
own_steps held start (SymLink dir name path set) cred =
    new_name_steps held (number_in dir.0) name
    ++ (Checks (fails_where noent (length path == 0)) ∷ change_steps held start (sym_link_changes held start (number_in dir.0)))
own_steps held start (MakeDir dir name set) cred =
    new_name_steps held (number_in dir.0) name ++ change_steps held start (make_dir_changes held (number_in dir.0))
own_steps held start (RemoveDir dir name) cred = removal_steps held start removal.Directory (number_in dir.0) name
own_steps held start (ReadDir dir cookie count) cred =
    at_handle held dir.0 [] (λ n d. map Checks (read_dir_checks d cred) ++ list_steps held n)
own_steps held start (StatFs file) cred = []

-- all steps of a call; a new number is searched from the memory node on that its arrival's number tells
unfoldable pub order : Held → ℕ → Call → Cred → List Step
order held arrival call cred = argument_steps held call cred ++ own_steps held (arrival % held.geometry.memories) call cred

-- the part that a call wants next, if it lacks one
abbrev pub wanted : Held → ℕ → Call → Cred → Option Want
wanted held arrival call cred = wanted_in held (order held arrival call cred)

-- what a call that lacks none has looked at
abbrev pub looked_at : Held → ℕ → Call → Cred → List Look
looked_at held arrival call cred = looks_in (order held arrival call cred)
