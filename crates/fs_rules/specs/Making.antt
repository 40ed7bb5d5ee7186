-- The procedures that make files: CREATE, MKDIR and SYMLINK (RFC 1094, sections 2.2.10, 2.2.15 and 2.2.14).
use Rattle.std.specs.Prelude.{ℕ, ◌+◌, ◌-◌, ◌*◌, ◌/◌, ◌%◌, ◌^◌, ◌==◌, not, ◌&&◌, ◌||◌, if◌then◌else◌, List, [], ◌∷◌, length, Option, Some, None, is_some, unwrap_or}
use Rattle.std.specs.FinMap as table
use Rattle.rpc_msg.specs.declared.cred.Cred.{Cred}
use Rattle.nfs_proto.specs.declared.sattr.Sattr.{Sattr}
use Rattle.nfs_proto.specs.declared.stamp.Stamp.{Stamp}
use Rattle.fs_rules.specs.declared.content.Content.{Content}
use Rattle.fs_rules.specs.declared.content.Content.TheVariants.{Regular, Link, Directory}
use Rattle.fs_rules.specs.declared.entry.Entry.{Entry}
use Rattle.fs_rules.specs.declared.file.File.{File}
use Rattle.fs_rules.specs.declared.kept.Kept.{Kept}
use Rattle.fs_rules.specs.declared.plain_tree.PlainTree.{PlainTree}
use Rattle.fs_rules.specs.File.{kind_of, slots_of}
use Rattle.fs_rules.specs.Contents.{written}
use Rattle.fs_rules.specs.Slots.{file_named, put_name}
use Rattle.fs_rules.specs.Access.{is_of_group, may}
use Rattle.fs_rules.specs.Numbers.{first_free, kept_at}
use Rattle.fs_rules.specs.Attributes.{is_set, chosen, chosen_moment, mode_bits, is_too_large, with_attributes}
use Rattle.fs_rules.specs.Statuses.{Check, fails_where, noent, nxio, acces, exist, fbig}
use Rattle.fs_rules.specs.Arguments.{at_number, is_dots}
use Rattle.fs_rules.specs.Edits.{Edit, Changed, Made}

-- ---- a directory whose names change

-- the content of a directory with these slots
abbrev pub with_slots : List (Option Entry) → Content → Content
with_slots slots (Regular blocks) = Regular blocks
with_slots slots (Directory old parent) = Directory slots parent
with_slots slots (Link blocks) = Link blocks

-- a directory with these slots: its size is 4,096 for 15 of them, and its mtime the moment
abbrev pub renamed : Stamp → List (Option Entry) → File → File
renamed now slots d = record d { content = with_slots slots d.content; size = 4096 * (length slots / 15); mtime = now }

-- a directory with a name more
abbrev pub with_name : Stamp → List ℕ → ℕ → File → File
with_name now name n d = renamed now (put_name (slots_of d.content) (record { name = name; file = n })) d

-- ---- a new file

-- its owner: another than the caller is set by user 0 alone, and another group by him and by one who is of it
abbrev pub new_uid : Sattr → Cred → ℕ
new_uid set cred = if is_set set.uid && (cred.uid == 0) then set.uid else cred.uid

abbrev pub new_gid : Sattr → Cred → ℕ
new_gid set cred = if is_set set.gid && ((cred.uid == 0) || is_of_group cred set.gid) then set.gid else cred.gid

-- the number of a new file
abbrev pub new_number : PlainTree → ℕ → ℕ
new_number t start = unwrap_or (first_free t start) 0

-- a file with this content: its generation and its change number are those that its number kept, plus one
unfoldable pub new_file : Kept → Stamp → Sattr → Cred → ℕ → ℕ → ℕ → Content → File
new_file kept now set cred mode links size content =
    record {
      content = content;
      mode = mode_bits mode;
      links = links;
      uid = new_uid set cred;
      gid = new_gid set cred;
      size = size;
      generation = kept.generation + 1;
      change = kept.change + 1;
      atime = chosen_moment set.atime now;
      mtime = chosen_moment set.mtime now;
      ctime = now;
    }

-- nothing is set
abbrev pub unset : Sattr
unset =
    record {
      mode = 2 ^ 32 - 1;
      uid = 2 ^ 32 - 1;
      gid = 2 ^ 32 - 1;
      size = 2 ^ 32 - 1;
      atime = record { sec = 2 ^ 32 - 1; usec = 2 ^ 32 - 1 };
      mtime = record { sec = 2 ^ 32 - 1; usec = 2 ^ 32 - 1 };
    }

-- ---- CREATE

-- the name is that of the file f: it is regular; where a size is set, with write access and within the limit
abbrev pub existing_checks : File → Sattr → Cred → List Check
existing_checks f set cred =
    fails_where exist (not (kind_of f.content == 1))
    ∷ fails_where acces (is_set set.size && not (may f cred 2))
    ∷ fails_where fbig (is_set set.size && is_too_large set.size)
    ∷ []

-- the name is new: the type in the mode is none or that of a regular file, and the size is within the limit
abbrev pub new_checks : Sattr → List Check
new_checks set =
    fails_where nxio (is_set set.mode && not ((set.mode / 4096 % 16 == 0) || (set.mode / 4096 % 16 == 8)))
    ∷ fails_where fbig (is_set set.size && is_too_large set.size)
    ∷ []

abbrev pub create_checks_by : PlainTree → Option ℕ → Sattr → Cred → List Check
create_checks_by t None set cred = new_checks set
create_checks_by t (Some m) set cred = at_number t m [] (λ f. existing_checks f set cred)

unfoldable pub create_checks : PlainTree → File → List ℕ → Sattr → Cred → List Check
create_checks t d name set cred = fails_where exist (is_dots name) ∷ create_checks_by t (file_named (slots_of d.content) name) set cred

-- of a file that is there, the size alone is set
abbrev pub size_alone : Sattr → Sattr
size_alone set = record unset { size = set.size }

abbrev pub existing_edits : Stamp → Sattr → ℕ → File → List Edit
existing_edits now set m f = if is_set set.size then Changed m (with_attributes now (size_alone set) f) ∷ [] else []

-- an unset mode is 0100644
abbrev pub new_regular : PlainTree → ℕ → Stamp → Sattr → Cred → File
new_regular t n now set cred = new_file (kept_at t n) now set cred (chosen set.mode 0o100644) 1 (chosen set.size 0) (Regular table.empty)

abbrev pub create_edits_by : PlainTree → ℕ → Option ℕ → ℕ → File → List ℕ → Sattr → Cred → Stamp → List Edit
create_edits_by t number None n d name set cred now = Changed n (with_name now name number d) ∷ Made number (new_regular t number now set cred) ∷ []
create_edits_by t number (Some m) n d name set cred now = at_number t m [] (existing_edits now set m)

unfoldable pub create_edits : PlainTree → ℕ → ℕ → File → List ℕ → Sattr → Cred → Stamp → List Edit
create_edits t start n d name set cred now = create_edits_by t (new_number t start) (file_named (slots_of d.content) name) n d name set cred now

-- ---- MKDIR

unfoldable pub make_dir_checks : File → List ℕ → List Check
make_dir_checks d name = fails_where exist (is_dots name || is_some (file_named (slots_of d.content) name)) ∷ []

-- an unset mode is 0755
abbrev pub new_directory : PlainTree → ℕ → ℕ → Stamp → Sattr → Cred → File
new_directory t n parent now set cred = new_file (kept_at t n) now set cred (chosen set.mode 0o755) 2 0 (Directory [] parent)

-- a directory with a link more
abbrev pub linked : File → File
linked f = record f { links = f.links + 1 }

unfoldable pub make_dir_edits : PlainTree → ℕ → ℕ → File → List ℕ → Sattr → Cred → Stamp → List Edit
make_dir_edits t start n d name set cred now =
    Changed n (linked (with_name now name (new_number t start) d))
    ∷ Made (new_number t start) (new_directory t (new_number t start) n now set cred)
    ∷ []

-- ---- SYMLINK

unfoldable pub sym_link_checks : File → List ℕ → List ℕ → List Check
sym_link_checks d name path =
    fails_where exist (is_dots name || is_some (file_named (slots_of d.content) name)) ∷ fails_where noent (length path == 0) ∷ []

-- its attributes are not set: all may do everything with it, and block 0 has the path
abbrev pub new_link : PlainTree → ℕ → Stamp → List ℕ → Cred → File
new_link t n now path cred = new_file (kept_at t n) now unset cred 0o777 1 (length path) (Link (written table.empty 0 path))

unfoldable pub sym_link_edits : PlainTree → ℕ → ℕ → File → List ℕ → List ℕ → Cred → Stamp → List Edit
sym_link_edits t start n d name path cred now =
    Changed n (with_name now name (new_number t start) d) ∷ Made (new_number t start) (new_link t (new_number t start) now path cred) ∷ []
