-- What SETATTR sets (RFC 1094, sections 2.2.3 and 2.3.6), which other procedures set too.
use Rattle.std.specs.Prelude.{ℕ, ◌-◌, ◌%◌, ◌^◌, ◌==◌, nat_lt, Bool, not, ◌&&◌, ◌||◌, if◌then◌else◌, List, [], ◌∷◌, ◌++◌}
use Rattle.rpc_msg.specs.declared.cred.Cred.{Cred}
use Rattle.nfs_proto.specs.declared.sattr.Sattr.{Sattr}
use Rattle.nfs_proto.specs.declared.stamp.Stamp.{Stamp}
use Rattle.fs_rules.specs.declared.content.Content.{Content}
use Rattle.fs_rules.specs.declared.content.Content.TheVariants.{Regular, Link, Directory}
use Rattle.fs_rules.specs.declared.file.File.{File}
use Rattle.fs_rules.specs.File.{is_directory, is_link}
use Rattle.fs_rules.specs.Contents.{resized}
use Rattle.fs_rules.specs.Access.{is_of_group, may}
use Rattle.fs_rules.specs.Statuses.{Check, fails_where, perm, nxio, acces, isdir, fbig}
use Rattle.fs_rules.specs.Edits.{Edit, Changed}

-- ---- what is set

-- a number of all ones is not set, nor is a moment both of whose numbers are
abbrev pub is_set : ℕ → Bool
is_set value = not (value == 2 ^ 32 - 1)

abbrev pub is_moment_set : Stamp → Bool
is_moment_set moment = is_set moment.sec || is_set moment.usec

-- a value that is set, else another
abbrev pub chosen : ℕ → ℕ → ℕ
chosen value other = if is_set value then value else other

abbrev pub chosen_moment : Stamp → Stamp → Stamp
chosen_moment moment other = if is_moment_set moment then moment else other

-- a moment with 1,000,000 microseconds stands for that of the call
abbrev pub is_server_time : Stamp → Bool
is_server_time moment = moment.usec == 1000000

-- the bits of a mode that are no type
abbrev pub mode_bits : ℕ → ℕ
mode_bits mode = mode % 4096

-- whether anything beside the size is set, and whether anything is
abbrev pub sets_attributes : Sattr → Bool
sets_attributes set = is_set set.mode || (is_set set.uid || (is_set set.gid || (is_moment_set set.atime || is_moment_set set.mtime)))

abbrev pub sets_something : Sattr → Bool
sets_something set = sets_attributes set || is_set set.size

-- ---- the size

-- the content of a file whose size becomes another
abbrev pub resized_content : ℕ → ℕ → Content → Content
resized_content old new (Regular blocks) = Regular (resized old new blocks)
resized_content old new (Directory slots parent) = Directory slots parent
resized_content old new (Link blocks) = Link blocks

-- the greatest size of a file
abbrev pub is_too_large : ℕ → Bool
is_too_large size = nat_lt 16711680 size

-- where a size is set: no directory, no link, write access, within the limit
abbrev pub size_checks : File → ℕ → Cred → List Check
size_checks f size cred =
    fails_where isdir (is_set size && is_directory f.content)
    ∷ fails_where nxio (is_set size && is_link f.content)
    ∷ fails_where acces (is_set size && not (may f cred 2))
    ∷ fails_where fbig (is_set size && is_too_large size)
    ∷ []

-- ---- SETATTR

-- the owner and user 0 may set attributes; user 0 alone gives a file to another user, and to a group of which he is not
abbrev pub owner_checks : File → Sattr → Cred → List Check
owner_checks f set cred =
    fails_where perm (sets_attributes set && not ((cred.uid == 0) || (cred.uid == f.uid)))
    ∷ fails_where perm (is_set set.uid && (not (set.uid == f.uid) && not (cred.uid == 0)))
    ∷ fails_where perm (is_set set.gid && (not (set.gid == f.gid) && not ((cred.uid == 0) || is_of_group cred set.gid)))
    ∷ []

unfoldable pub set_attr_checks : File → Sattr → Cred → List Check
set_attr_checks f set cred = owner_checks f set cred ++ size_checks f set.size cred

-- the times: a set size sets mtime too; an mtime that stands for the moment of the call sets both
abbrev pub mtime_after : Stamp → Sattr → File → Stamp
mtime_after now set f =
    if is_server_time set.mtime then now else if is_moment_set set.mtime then set.mtime else if is_set set.size then now else f.mtime

abbrev pub atime_after : Stamp → Sattr → File → Stamp
atime_after now set f = if is_server_time set.mtime || is_server_time set.atime then now else chosen_moment set.atime f.atime

-- the file with what was set
unfoldable pub with_attributes : Stamp → Sattr → File → File
with_attributes now set f =
    record f {
      content = resized_content f.size (chosen set.size f.size) f.content;
      mode = if is_set set.mode then mode_bits set.mode else f.mode;
      uid = chosen set.uid f.uid;
      gid = chosen set.gid f.gid;
      size = chosen set.size f.size;
      atime = atime_after now set f;
      mtime = mtime_after now set f;
    }

unfoldable pub set_attr_edits : Stamp → Sattr → ℕ → File → List Edit
set_attr_edits now set n f = if sets_something set then Changed n (with_attributes now set f) ∷ [] else []
