-- The parts of a file that take a block, and what each holds (docs/FORMATS.md, "Images").
use Rattle.std.specs.Prelude.{◌≡◌, ℕ, ◌+◌, ◌*◌, ◌/◌, ◌<◌, nat_lt, Bool, false, List, [], length, map, take, drop, slice_get, count_by, Option, Some, None, is_some, unwrap_or}
use Rattle.std.specs.FinMap as table
use Rattle.fs_layout.specs.declared.attrs.Attrs.{Attrs}
use Rattle.fs_layout.specs.declared.reference.Reference.{Reference}
use Rattle.fs_layout.specs.Inodes.{free_inode}
use Rattle.fs_chain.specs.declared.chain_block.ChainBlock.{ChainBlock}
use Rattle.fs_chain.specs.Chains.{SpellsChain}
use Rattle.fs_dir.specs.declared.slot.Slot.{Slot}
use Rattle.fs_dir.specs.Slots.{SpellsSlots}
use Rattle.fs_rules.specs.declared.content.Content.{Content}
use Rattle.fs_rules.specs.declared.content.Content.TheVariants.{Regular, Link, Directory}
use Rattle.fs_rules.specs.declared.entry.Entry.{Entry}
use Rattle.fs_rules.specs.declared.file.File.{File}
use Rattle.fs_rules.specs.declared.kept.Kept.{Kept}
use Rattle.fs_rules.specs.File.{kind_of, slots_of, parent_of, greatest, last_of, chains_up_to, used}
use Rattle.fs_image.specs.Owners.{Part, Chain, Block}

-- ---- the parts

-- how many chaining blocks a file has
abbrev pub chains_of : Content → ℕ
chains_of (Regular blocks) = chains_up_to (greatest blocks)
chains_of (Directory slots parent) = chains_up_to (last_of (length slots / 15))
chains_of (Link blocks) = chains_up_to (greatest blocks)

-- whether a block is stored at an index
abbrev pub is_stored : Content → ℕ → Bool
is_stored (Regular blocks) index = table.contains_key blocks index
is_stored (Directory slots parent) index = nat_lt index (length slots / 15)
is_stored (Link blocks) index = table.contains_key blocks index

-- whether a file has a part
abbrev pub has_part : Content → Part → Bool
has_part content (Chain k) = nat_lt k (chains_of content)
has_part content (Block index) = is_stored content index

-- the same of what may be a file: where there is none there is no part
abbrev pub has_part_of : Option File → Part → Bool
has_part_of None x = false
has_part_of (Some f) x = has_part f.content x

-- ---- the record

-- how many names a file has in use
abbrev pub names_of : Content → ℕ
names_of content = count_by is_some (slots_of content)

-- the record of a live file whose first chaining block is there
abbrev pub live_inode : File → Option Reference → Attrs
live_inode f first =
    record {
      kind = kind_of f.content;
      mode = f.mode;
      links = f.links;
      uid = f.uid;
      gid = f.gid;
      size = f.size;
      generation = f.generation;
      used = used f.content;
      change = f.change;
      atime_sec = f.atime.sec;
      atime_usec = f.atime.usec;
      mtime_sec = f.mtime.sec;
      mtime_usec = f.mtime.usec;
      ctime_sec = f.ctime.sec;
      ctime_usec = f.ctime.usec;
      first = first;
      chains = chains_of f.content;
      parent = unwrap_or (parent_of f.content) 0;
      names = names_of f.content;
    }

-- the record of a number: of its file, or of what it keeps
abbrev pub inode_of : Option File → Kept → Option Reference → Attrs
inode_of (Some f) kept first = live_inode f first
inode_of None kept first = free_inode kept.generation kept.change

-- ---- the blocks

-- the slot of a block for a slot of a tree
abbrev pub slot_of : Option Entry → Slot
slot_of None = record { number = 0; name = [] }
slot_of (Some e) = record { number = e.file; name = e.name }

-- the 15 slots of a directory's block
abbrev pub slots_at : List (Option Entry) → ℕ → List (Option Entry)
slots_at slots index = take 15 (drop (15 * index) slots)

-- a block holds the stored block of a file with this index: its bytes, or 15 slots
abbrev pub HoldsBlock : Content → ℕ → List ℕ → Type 0
HoldsBlock (Regular blocks) index bytes = table.get blocks index ≡ Some bytes
HoldsBlock (Directory slots parent) index bytes = SpellsSlots (map slot_of (slots_at slots index)) bytes
HoldsBlock (Link blocks) index bytes = table.get blocks index ≡ Some bytes

-- a block holds the chaining block of the file n with this index: it names the next one, the file and the index, and
-- refers to the file's blocks from 510 times the index on
pub record HoldsChain (place : Part → Option Reference) (n index : ℕ) (bytes : List ℕ) : Type 0 where
  pub chain : ChainBlock
  pub spelled : SpellsChain chain bytes
  pub next : chain.next ≡ place (Chain (index + 1))
  pub file : chain.file ≡ n
  pub index_is : chain.index ≡ index
  pub references : (j : ℕ) → j < 510 → slice_get chain.references j ≡ Some (place (Block (510 * index + j)))

abbrev pub Holds : (Part → Option Reference) → ℕ → Content → Part → List ℕ → Type 0
Holds place n content (Chain k) bytes = HoldsChain place n k bytes
Holds place n content (Block index) bytes = HoldsBlock content index bytes
