-- Who may do what with a file: read (4), write (2) and search (1).
use Rattle.std.specs.Prelude.{ℕ, ◌/◌, ◌%◌, ◌==◌, Bool, ◌&&◌, ◌||◌, if◌then◌else◌, bit_and, bit_or}
use Rattle.std.specs.List.{list_any}
use Rattle.fs_layout.specs.declared.attrs.Attrs.{Attrs}
use Rattle.rpc_msg.specs.declared.cred.Cred.{Cred}
use Rattle.fs_rules.specs.declared.file.File.{File}
use Rattle.fs_rules.specs.File.{kind_of}

-- whether the caller is of a group
abbrev pub is_of_group : Cred → ℕ → Bool
is_of_group cred gid = (cred.gid == gid) || list_any (λ g. g == gid) cred.gids

-- the bits of a mode that are the caller's: the owner's, else the group's, else the others'
abbrev pub class_bits : ℕ → ℕ → ℕ → Cred → ℕ
class_bits mode uid gid cred = if cred.uid == uid then mode / 64 % 8 else if is_of_group cred gid then mode / 8 % 8 else mode % 8

-- what the caller may do: the owner may always read and write his regular file
abbrev pub allowed_bits : ℕ → ℕ → ℕ → ℕ → Cred → ℕ
allowed_bits kind mode uid gid cred = if (kind == 1) && (cred.uid == uid) then bit_or 6 (class_bits mode uid gid cred) else class_bits mode uid gid cred

-- whether the caller may do all that the bits say: user 0 may do everything
unfoldable pub is_allowed : ℕ → ℕ → ℕ → ℕ → Cred → ℕ → Bool
is_allowed kind mode uid gid cred bits = (cred.uid == 0) || (bit_and bits (allowed_bits kind mode uid gid cred) == bits)

-- of a file of a tree
abbrev pub may : File → Cred → ℕ → Bool
may f cred bits = is_allowed (kind_of f.content) f.mode f.uid f.gid cred bits

-- of the attributes of an inode record
abbrev pub may_by : Attrs → Cred → ℕ → Bool
may_by a cred bits = is_allowed a.kind a.mode a.uid a.gid cred bits
