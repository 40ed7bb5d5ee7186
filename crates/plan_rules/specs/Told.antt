-- What the parts that are held tell, as they stand.
use Rattle.std.specs.Prelude.{ℕ, zero, suc, ◌+◌, ◌-◌, ◌/◌, ◌%◌, ◌==◌, nat_lt, bytes_eq, Bool, not, ◌&&◌, if◌then◌else◌, List, [], take, drop, find, flat_map, get_or, Option, Some, None, is_some, is_none, unwrap_or, option_map, option_and_then}
use Rattle.std.specs.Option.{option_map_or}
use Rattle.fs_layout.specs.declared.attrs.Attrs.{Attrs}
use Rattle.fs_layout.specs.declared.reference.Reference.{Reference}
use Rattle.fs_layout.specs.Places.{number_of}
use Rattle.fs_bitmap.specs.Bits.{is_used, free_below}
use Rattle.fs_chain.specs.declared.chain_block.ChainBlock.{ChainBlock}
use Rattle.fs_dir.specs.declared.slot.Slot.{Slot}
use Rattle.fs_dir.specs.Slots.{has_name, in_use}
use Rattle.fs_rules.specs.declared.file.File.{File}
use Rattle.fs_rules.specs.declared.geometry.Geometry.{Geometry}
use Rattle.fs_rules.specs.Handle.{handle, number_in}
use Rattle.fs_rules.specs.Lists.{below}
use Rattle.fs_checks.specs.Facts.{facts_by, bare}
use Rattle.fs_image.specs.Owners.{Part, Chain, Block}
use Rattle.node_cache.specs.declared.held.Held.{Held}
use Rattle.node_cache.specs.Cached.{held_of}

-- ---- numbers

-- the memory node and the inode of a number, and whether it is one of this cluster
abbrev pub memory_at : ℕ → ℕ
memory_at n = (n - 1) / 16384

abbrev pub inode_at : ℕ → ℕ
inode_at n = (n - 1) % 16384

abbrev pub is_number : Geometry → ℕ → Bool
is_number g n = nat_lt 0 n && (nat_lt (memory_at n) g.memories && nat_lt (inode_at n) g.inodes)

-- ---- records

-- what is said of the record of a file; another thing where none is held
abbrev pub at_record : {A : Type 0} → Held → ℕ → A → (Attrs → A) → A
at_record held n other said = option_map_or (λ e. said e.attrs) (held_of n held.entries) other

-- the file that a record tells: with its facts, with no bytes and no names; a free record tells none
abbrev pub file_at : Held → ℕ → Option File
file_at held n = at_record held n None (λ a. option_map bare (facts_by a))

-- what is said of it; another thing where there is none
abbrev pub at_number : {A : Type 0} → Held → ℕ → A → (File → A) → A
at_number held n other said = option_map_or said (file_at held n) other

-- the file that a handle names, and what is said of it, as the rules have it of a tree
abbrev pub file_of : Held → List ℕ → Option File
file_of held name =
    option_and_then (λ f. if bytes_eq name (handle (number_in name) f.generation) then Some f else None) (file_at held (number_in name))

abbrev pub at_handle : {A : Type 0} → Held → List ℕ → A → (ℕ → File → A) → A
at_handle held name other said = option_map_or (said (number_in name)) (file_of held name) other

-- ---- blocks

-- a chaining block of a file
abbrev pub chain_of : Held → ℕ → ℕ → Option ChainBlock
chain_of held n k = option_and_then (λ e. option_map (λ c. c.chain) (find (λ c. c.index == k) e.chains)) (held_of n held.entries)

-- where the parts of a file lie: its first chaining block as its record says, each other part as a chaining block says
abbrev pub place_of : Held → ℕ → Part → Option Reference
place_of held n (Chain zero) = at_record held n None (λ a. a.first)
place_of held n (Chain (suc k)) = option_and_then (λ c. c.next) (chain_of held n k)
place_of held n (Block i) = option_and_then (λ c. get_or c.references (i % 510) None) (chain_of held n (i / 510))

-- how many chaining blocks a record tells
abbrev pub chains_of : Held → ℕ → ℕ
chains_of held n = at_record held n 0 (λ a. a.chains)

-- ---- names

-- how many blocks the record of a directory tells, and how many groups of 64 of them; another file has none
abbrev pub dir_blocks : Attrs → ℕ
dir_blocks a = if a.kind == 2 then a.size / 4096 else 0

abbrev pub dir_groups : Attrs → ℕ
dir_groups a = (dir_blocks a + 63) / 64

-- the slots of a group, and those of all groups that are held
abbrev pub group_of : Held → ℕ → ℕ → List Slot
group_of held n g = option_map_or (λ e. option_map_or (λ s. s.slots) (find (λ s. s.group == g) e.groups) []) (held_of n held.entries) []

abbrev pub slots_of : Held → ℕ → List Slot
slots_of held n = flat_map (group_of held n) (below (at_record held n 0 dir_groups))

-- the number of the file that a name names in a directory
abbrev pub found : Held → ℕ → List ℕ → Option ℕ
found held n name = option_map (λ s. s.number) (find (has_name name) (slots_of held n))

-- whether no slot of a directory is empty
abbrev pub is_full : Held → ℕ → Bool
is_full held n = is_none (find (λ s. not (in_use s)) (slots_of held n))

-- ---- maps

-- the bits of the blocks of a memory node, and those of its inodes
abbrev pub map_of : Held → ℕ → List ℕ
map_of held m = unwrap_or (get_or held.maps m None) []

abbrev pub block_bits : Held → ℕ → List ℕ
block_bits held m = take 2048 (map_of held m)

abbrev pub inode_bits : Held → ℕ → List ℕ
inode_bits held m = drop 2048 (map_of held m)

-- how many blocks are free on a memory node, where its map is held
abbrev pub free_on : Held → ℕ → ℕ
free_on held m = if is_some (get_or held.maps m None) then free_below (block_bits held m) held.geometry.blocks else 0

-- the number of the lowest free inode of a memory node
abbrev pub free_number : Held → ℕ → Option ℕ
free_number held m = option_map (number_of m) (find (λ i. not (is_used (inode_bits held m) i)) (below held.geometry.inodes))
