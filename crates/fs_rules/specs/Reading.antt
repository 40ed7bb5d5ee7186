-- The procedures that change nothing: GETATTR, LOOKUP, READLINK, READ, READDIR and STATFS (RFC 1094, sections 2.2.2, 2.2.5 to
-- 2.2.7, 2.2.17 and 2.2.18).
use Rattle.std.specs.Prelude.{ℕ, ◌-◌, ◌*◌, ◌==◌, min, not, ◌||◌, if◌then◌else◌, List, [], ◌∷◌, length, Option, Some, is_none, unwrap_or}
use Rattle.std.specs.Option.{option_map_or}
use Rattle.rpc_msg.specs.declared.cred.Cred.{Cred}
use Rattle.nfs_proto.specs.declared.answer.Answer.{Answer}
use Rattle.nfs_proto.specs.declared.answer.Answer.TheVariants.{Fault, Attr, Found, Path, Part, Names, Space}
use Rattle.nfs_proto.specs.declared.dir_entry.DirEntry.{DirEntry}
use Rattle.fs_rules.specs.declared.file.File.{File}
use Rattle.fs_rules.specs.declared.plain_tree.PlainTree.{PlainTree}
use Rattle.fs_rules.specs.Handle.{handle}
use Rattle.fs_rules.specs.File.{fattr_of, is_directory, is_link, blocks_of, slots_of, parent_of}
use Rattle.fs_rules.specs.Contents.{part}
use Rattle.fs_rules.specs.Slots.{file_named, entries_of, entries_behind, run_of}
use Rattle.fs_rules.specs.Access.{may}
use Rattle.fs_rules.specs.Numbers.{free_blocks}
use Rattle.fs_rules.specs.Statuses.{Check, fails_where, noent, nxio, acces, isdir, stale}
use Rattle.fs_rules.specs.Arguments.{at_number, is_dot, is_dot_dot}

-- ---- answers that tell of a file: where none has the number, its handle is stale

abbrev pub attr_at : PlainTree → ℕ → Answer
attr_at t n = at_number t n (Fault stale) (λ f. Attr (fattr_of n f))

abbrev pub found_at : PlainTree → ℕ → Answer
found_at t n = at_number t n (Fault stale) (λ f. Found (record { 0 = handle n f.generation }) (fattr_of n f))

-- ---- LOOKUP

-- the file that a name names in the directory n: "." is itself, and ".." its parent
unfoldable pub target : ℕ → File → List ℕ → Option ℕ
target n f name = if is_dot name then Some n else if is_dot_dot name then parent_of f.content else file_named (slots_of f.content) name

abbrev pub lookup_checks : ℕ → File → List ℕ → List Check
lookup_checks n f name = fails_where noent (is_none (target n f name)) ∷ []

unfoldable pub lookup_answer : PlainTree → ℕ → File → List ℕ → Answer
lookup_answer t n f name = option_map_or (found_at t) (target n f name) (Fault noent)

-- ---- READLINK

abbrev pub read_link_checks : File → List Check
read_link_checks f = fails_where nxio (not (is_link f.content)) ∷ []

unfoldable pub read_link_answer : File → Answer
read_link_answer f = Path (part (blocks_of f.content) 0 f.size)

-- ---- READ

-- no directory, no link, and the read or the search bit
abbrev pub read_checks : File → Cred → List Check
read_checks f cred =
    fails_where isdir (is_directory f.content)
    ∷ fails_where nxio (is_link f.content)
    ∷ fails_where acces (not (may f cred 4 || may f cred 1))
    ∷ []

-- as many bytes as are asked for, at most 8,192, and none past the size
unfoldable pub read_answer : ℕ → File → ℕ → ℕ → Answer
read_answer n f offset count = Part (fattr_of n f) (part (blocks_of f.content) offset (min count (min 8192 (f.size - offset))))

-- ---- READDIR

abbrev pub read_dir_checks : File → Cred → List Check
read_dir_checks f cred = fails_where acces (not (may f cred 4)) ∷ []

-- whether as many entries are given as are left
abbrev pub names_answer : ℕ → List DirEntry → Answer
names_answer count entries = Names (run_of count entries) (length (run_of count entries) == length entries)

unfoldable pub read_dir_answer : ℕ → File → ℕ → ℕ → Answer
read_dir_answer n f cookie count = names_answer count (entries_behind cookie (entries_of n (unwrap_or (parent_of f.content) n) (slots_of f.content)))

-- ---- STATFS

-- the best size of a transfer, the size of a block, all blocks, and those that are free
unfoldable pub space_answer : PlainTree → Answer
space_answer t = Space 8192 4096 (t.geometry.memories * t.geometry.blocks) (free_blocks t) (free_blocks t)
