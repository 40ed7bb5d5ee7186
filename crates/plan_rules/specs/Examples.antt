-- One example of each procedure: what is held, and what is wanted next.
use Rattle.std.specs.Prelude.{◌≡◌, ℕ, List, [], ◌∷◌, codes, replicate, Option, Some, None}
use Rattle.rpc_msg.specs.declared.cred.Cred.{Cred}
use Rattle.nfs_proto.specs.declared.call.Call.{Call}
use Rattle.nfs_proto.specs.declared.call.Call.TheVariants.{GetAttr, SetAttr, Lookup, ReadLink, Read, Write, Create, Remove, Rename, Link, SymLink, MakeDir, RemoveDir, ReadDir, StatFs}
use Rattle.nfs_proto.specs.declared.handle.Handle.{Handle}
use Rattle.fs_layout.specs.declared.attrs.Attrs.{Attrs}
use Rattle.fs_layout.specs.declared.reference.Reference.{Reference}
use Rattle.fs_layout.specs.Inodes.{free_inode}
use Rattle.fs_rules.specs.Handle.{handle}
use Rattle.fs_rules.specs.Making.{unset}
use Rattle.fs_image.specs.Stamps.{stamp}
use Rattle.mini_tx.specs.declared.item.Item.{Item}
use Rattle.mini_tx.specs.declared.item.Item.TheVariants.{Compare}
use Rattle.node_cache.specs.declared.entry.Entry.{Entry}
use Rattle.node_cache.specs.declared.entry.HeldChain.{HeldChain}
use Rattle.node_cache.specs.declared.entry.HeldGroup.{HeldGroup}
use Rattle.node_cache.specs.declared.held.Held.{Held}
use Rattle.node_cache.specs.declared.want.Want.{Want}
use Rattle.node_cache.specs.declared.want.Want.TheVariants.{Inode, Chain, Slots, Map}
use Rattle.plan_rules.specs.declared.look.Look.{Look}
use Rattle.plan_rules.specs.declared.look.Look.TheVariants.{Record, Chaining, Group, BlockBits, InodeBits}
use Rattle.plan_rules.specs.Orders.{wanted, looked_at}
use Rattle.plan_rules.specs.Compared.{compares}

-- ---- the files of a small cluster, all of generation 1

abbrev pub at_block : ℕ → Option Reference
at_block block = Some (record { memory = 0; block = block })

-- a directory without slots, and one with a block
abbrev pub directory : ℕ → Attrs
directory parent = record (free_inode 1 1) { kind = 2; mode = 0o777; links = 2; parent = parent }

abbrev pub full_directory : ℕ → ℕ → Attrs
full_directory parent names =
    record (free_inode 1 1) { kind = 2; mode = 0o777; links = 2; parent = parent; size = 4096; used = 2; first = at_block 0; chains = 1; names = names }

-- a regular file with one name and a block, and one without blocks
abbrev pub regular : Attrs
regular = record (free_inode 1 1) { kind = 1; mode = 0o666; links = 1; size = 100; used = 2; first = at_block 2; chains = 1 }

abbrev pub empty : Attrs
empty = record (free_inode 1 1) { kind = 1; mode = 0o666; links = 1 }

abbrev pub sym_link : Attrs
sym_link = record (free_inode 1 1) { kind = 5; mode = 0o777; links = 1; size = 3; used = 2; first = at_block 4; chains = 1 }

-- what is held of a file: its record; and its first chaining block; and its first slot
abbrev pub record_of : ℕ → Attrs → Entry
record_of n a = record { number = n; attrs = a; chains = []; groups = [] }

abbrev pub first_of : ℕ → ℕ → Option Reference → HeldChain
first_of n block after =
    record { index = 0; chain = record { next = None; file = n; index = 0; references = at_block block ∷ after ∷ [] } }

abbrev pub named : List ℕ → ℕ → HeldGroup
named name n = record { group = 0; slots = record { number = n; name = name } ∷ record { number = 0; name = [] } ∷ [] }

-- a directory whose first slot has a name, held whole
abbrev pub with_slot : ℕ → List ℕ → ℕ → Entry
with_slot n name file = record (record_of n (full_directory 1 1)) { chains = first_of n 1 None ∷ []; groups = named name file ∷ [] }

-- one node, two memory nodes with eight blocks and eight inodes each
abbrev pub work : List Entry → List (Option (List ℕ)) → Held
work entries maps = record { geometry = record { nodes = 1; memories = 2; blocks = 8; inodes = 8 }; entries = entries; maps = maps }

abbrev pub without_maps : List Entry → Held
without_maps entries = work entries (None ∷ None ∷ [])

-- user 0, and another
abbrev pub root_user : Cred
root_user = record { uid = 0; gid = 0; gids = [] }

abbrev pub handle_of : ℕ → Handle
handle_of n = record { 0 = handle n 1 }

-- what arrival 1 wants: a new file comes from memory node 1 on
abbrev pub next : List Entry → Call → Option Want
next entries call = wanted (without_maps entries) 1 call root_user

-- a page of maps in which all is free
abbrev pub free_page : Option (List ℕ)
free_page = Some (replicate 4096 0)

-- what is compared of a file whose record lies on memory node 0, and of the maps of one
abbrev pub stamp_at : ℕ → Attrs → Item
stamp_at at a = Compare 0 at (stamp a)

abbrev pub bits_at : ℕ → ℕ → Item
bits_at m at = Compare m at (0 ∷ [])

-- what it looks at where both maps are held, of which nothing is taken
abbrev pub all_looks : List Entry → Call → List Look
all_looks entries call = looked_at (work entries (free_page ∷ free_page ∷ [])) 1 call root_user

pub record ExamplesHold : Type 0 where
  -- nothing is held: the record of the handle; the record is held: nothing more
  pub get_attr : next [] (GetAttr (handle_of 1)) ≡ Some (Inode 1)
  pub get_attr_held : next (record_of 1 (directory 1) ∷ []) (GetAttr (handle_of 1)) ≡ None
  -- a free record is that of no live file, so the second record of LINK is not wanted
  pub stale : next (record_of 1 (free_inode 1 1) ∷ []) (Link (handle_of 1) (handle_of 2) (codes "a")) ≡ None
  -- a smaller size: the chaining blocks; a greater one needs none
  pub set_attr : next (record_of 2 regular ∷ []) (SetAttr (handle_of 2) (record unset { size = 10 })) ≡ Some (Chain 2 0)
  pub set_attr_more : next (record_of 2 regular ∷ []) (SetAttr (handle_of 2) (record unset { size = 200 })) ≡ None
  -- a name: chaining block 0, the groups of slots, and the record of the file; "." needs no slot
  pub lookup : next (record_of 1 (full_directory 1 1) ∷ []) (Lookup (handle_of 1) (codes "a")) ≡ Some (Chain 1 0)
  pub lookup_slots : next (record (record_of 1 (full_directory 1 1)) { chains = first_of 1 1 None ∷ [] } ∷ []) (Lookup (handle_of 1) (codes "a")) ≡ Some (Slots 1 0)
  pub lookup_file : next (with_slot 1 (codes "a") 2 ∷ []) (Lookup (handle_of 1) (codes "a")) ≡ Some (Inode 2)
  pub lookup_absent : next (with_slot 1 (codes "a") 2 ∷ []) (Lookup (handle_of 1) (codes "b")) ≡ None
  pub lookup_parent : next (record_of 3 (full_directory 1 1) ∷ []) (Lookup (handle_of 3) (codes "..")) ≡ Some (Inode 1)
  pub read_link : next (record_of 4 sym_link ∷ []) (ReadLink (handle_of 4)) ≡ Some (Chain 4 0)
  -- a read past the size needs no block
  pub read : next (record_of 2 regular ∷ []) (Read (handle_of 2) 99 10 0) ≡ Some (Chain 2 0)
  pub read_past : next (record_of 2 regular ∷ []) (Read (handle_of 2) 100 10 0) ≡ None
  -- a write into a file without blocks: the map of its memory node
  pub write : next (record_of 2 empty ∷ []) (Write (handle_of 2) 0 0 0 (7 ∷ [])) ≡ Some (Map 0)
  pub write_stored : next (record_of 2 regular ∷ []) (Write (handle_of 2) 0 0 0 (7 ∷ [])) ≡ Some (Chain 2 0)
  pub write_nothing : next (record_of 2 regular ∷ []) (Write (handle_of 2) 0 0 0 []) ≡ None
  -- a new file: the map of the memory node of the arrival's number; a file that is there: its record
  pub create : next (with_slot 1 (codes "a") 2 ∷ []) (Create (handle_of 1) (codes "b") unset) ≡ Some (Map 1)
  pub create_there : next (with_slot 1 (codes "a") 2 ∷ []) (Create (handle_of 1) (codes "a") unset) ≡ Some (Inode 2)
  -- the last name of a file: the map with its inode
  pub remove : next (with_slot 1 (codes "a") 2 ∷ record_of 2 empty ∷ []) (Remove (handle_of 1) (codes "a")) ≡ Some (Map 0)
  -- a directory goes into another: the parents of that one
  pub rename : next (with_slot 1 (codes "a") 2 ∷ record_of 2 (directory 1) ∷ record_of 3 (directory 5) ∷ []) (Rename (handle_of 1) (codes "a") (handle_of 3) (codes "b")) ≡ Some (Inode 5)
  -- a new name in a directory without slots: the map of its memory node
  pub link : next (record_of 1 (directory 1) ∷ record_of 2 empty ∷ []) (Link (handle_of 2) (handle_of 1) (codes "a")) ≡ Some (Map 0)
  pub sym_links : next (with_slot 1 (codes "a") 2 ∷ []) (SymLink (handle_of 1) (codes "b") (codes "p") unset) ≡ Some (Map 1)
  pub make_dir : next (record_of 1 (directory 1) ∷ []) (MakeDir (handle_of 1) (codes "a") unset) ≡ Some (Map 1)
  -- a directory with a name in use is not removed
  pub remove_dir : next (with_slot 1 (codes "a") 3 ∷ record_of 3 (directory 1) ∷ []) (RemoveDir (handle_of 1) (codes "a")) ≡ Some (Map 0)
  pub remove_dir_in_use : next (with_slot 1 (codes "a") 3 ∷ record_of 3 (full_directory 1 1) ∷ []) (RemoveDir (handle_of 1) (codes "a")) ≡ None
  pub read_dir : next (record_of 1 (full_directory 1 1) ∷ []) (ReadDir (handle_of 1) 0 100) ≡ Some (Chain 1 0)
  -- STATFS reads the maps in its final
  pub stat_fs : next (record_of 1 (directory 1) ∷ []) (StatFs (handle_of 1)) ≡ None
  -- a new link in a directory without slots: the directory, a number from memory node 1 on, and room for both
  pub looks_of_sym_link : all_looks (record_of 1 (directory 1) ∷ record_of 16385 (free_inode 0 0) ∷ []) (SymLink (handle_of 1) (codes "b") (codes "p") unset)
      ≡ Record 1 ∷ InodeBits 1 ∷ Record 16385 ∷ BlockBits 0 ∷ BlockBits 1 ∷ []
  -- a file that loses its last name: both records, its chaining block, the map with its blocks and its inode
  pub looks_of_remove : all_looks (with_slot 1 (codes "a") 2 ∷ record (record_of 2 regular) { chains = first_of 2 3 None ∷ [] } ∷ []) (Remove (handle_of 1) (codes "a"))
      ≡ Record 1 ∷ Chaining 1 0 ∷ Group 1 0 ∷ Record 2 ∷ Chaining 2 0 ∷ BlockBits 0 ∷ InodeBits 0 ∷ []
  -- a name that is there ends MKDIR with its slot
  pub looks_of_make_dir : all_looks (with_slot 1 (codes "a") 2 ∷ []) (MakeDir (handle_of 1) (codes "a") unset) ≡ Record 1 ∷ Chaining 1 0 ∷ Group 1 0 ∷ []
  -- each stamp is compared once, and both maps of a memory node where the first of them was looked at
  pub stamps : compares (without_maps (with_slot 1 (codes "a") 2 ∷ record_of 2 regular ∷ [])) (Record 1 ∷ Chaining 1 0 ∷ Group 1 0 ∷ Record 2 ∷ Record 1 ∷ [])
      ≡ stamp_at 8216 (full_directory 1 1) ∷ stamp_at 8344 regular ∷ []
  pub maps : compares (work (record_of 1 (directory 1) ∷ []) (free_page ∷ free_page ∷ [])) (InodeBits 1 ∷ Record 1 ∷ BlockBits 0 ∷ BlockBits 1 ∷ [])
      ≡ bits_at 1 4096 ∷ bits_at 1 6144 ∷ stamp_at 8216 (directory 1) ∷ bits_at 0 4096 ∷ []
