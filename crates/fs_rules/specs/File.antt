-- What is told of one file.
use Rattle.std.specs.Prelude.{ℕ, ◌+◌, ◌-◌, ◌*◌, ◌/◌, nat_lt, Bool, true, false, if◌then◌else◌, List, [], length, Option, Some, None, slice_get}
use Rattle.std.specs.Ordering.{nat_cmp}
use Rattle.std.specs.FinMap as map
use Rattle.std.specs.FinMap.{FinMap}
use Rattle.fs_rules.specs.declared.content.Content.{Content}
use Rattle.fs_rules.specs.declared.content.Content.TheVariants.{Regular, Link, Directory}
use Rattle.fs_rules.specs.declared.entry.Entry.{Entry}
use Rattle.fs_rules.specs.declared.file.File.{File}
use Rattle.nfs_proto.specs.declared.fattr.Fattr.{Fattr}

-- the stored blocks of a file, by their index
abbrev pub BlockMap : Type 0
BlockMap = FinMap nat_cmp (List ℕ)

-- the number of the kind in what a client is told (RFC 1094, section 2.3.2)
abbrev pub kind_of : Content → ℕ
kind_of (Regular blocks) = 1
kind_of (Directory slots parent) = 2
kind_of (Link blocks) = 5

-- the bits of the kind in the mode (RFC 1094, section 2.3.5)
abbrev pub type_bits : Content → ℕ
type_bits (Regular blocks) = 0o100000
type_bits (Directory slots parent) = 0o040000
type_bits (Link blocks) = 0o120000

-- whether a file is a directory, and whether it is a symbolic link
abbrev pub is_directory : Content → Bool
is_directory (Regular blocks) = false
is_directory (Directory slots parent) = true
is_directory (Link blocks) = false

abbrev pub is_link : Content → Bool
is_link (Regular blocks) = false
is_link (Directory slots parent) = false
is_link (Link blocks) = true

-- the stored blocks of a regular file or a link; a directory has none
abbrev pub blocks_of : Content → BlockMap
blocks_of (Regular blocks) = blocks
blocks_of (Directory slots parent) = map.empty
blocks_of (Link blocks) = blocks

-- the slots of a directory; another file has none
abbrev pub slots_of : Content → List (Option Entry)
slots_of (Regular blocks) = []
slots_of (Directory slots parent) = slots
slots_of (Link blocks) = []

-- the directory in which the name of a directory lies; another file has none
abbrev pub parent_of : Content → Option ℕ
parent_of (Regular blocks) = None
parent_of (Directory slots parent) = Some parent
parent_of (Link blocks) = None

-- the greatest index of a stored block
abbrev pub greatest : BlockMap → Option ℕ
greatest blocks = slice_get (map.keys blocks) (map.len blocks - 1)

-- the greatest index of n blocks that begin at index 0
abbrev pub last_of : ℕ → Option ℕ
last_of n = if nat_lt 0 n then Some (n - 1) else None

-- how many chaining blocks it takes to refer to blocks up to this index: each has 510 references
abbrev pub chains_up_to : Option ℕ → ℕ
chains_up_to None = 0
chains_up_to (Some index) = index / 510 + 1

-- how many blocks of the cluster a file uses: the stored ones, a directory's being 15 slots each, and the chaining blocks
abbrev pub used : Content → ℕ
used (Regular blocks) = map.len blocks + chains_up_to (greatest blocks)
used (Directory slots parent) = length slots / 15 + chains_up_to (last_of (length slots / 15))
used (Link blocks) = map.len blocks + chains_up_to (greatest blocks)

-- what a client is told of a file: its blocks are in units of 512 bytes
abbrev pub fattr_of : ℕ → File → Fattr
fattr_of number f =
    record {
      kind = kind_of f.content;
      mode = type_bits f.content + f.mode;
      links = f.links;
      uid = f.uid;
      gid = f.gid;
      size = f.size;
      block_size = 4096;
      rdev = 0;
      blocks = 8 * used f.content;
      fsid = 1;
      fileid = number;
      atime = f.atime;
      mtime = f.mtime;
      ctime = f.ctime;
    }
