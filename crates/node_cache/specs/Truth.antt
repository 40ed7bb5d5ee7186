-- When what is held of a file is true of a flat memory, and why it stays so.
use Rattle.std.specs.Prelude.{◌≡◌, ◌⊎◌, ℕ, ◌+◌, ◌*◌, ◌<◌, ◌≤◌, true, List, length, take, drop, slice_get, Option, Some, None, IsSome}
use Rattle.std.specs.Option.{option_map_or}
use Rattle.std.specs.FinMap as table
use Rattle.nfs_proto.specs.declared.stamp.Stamp.{Stamp}
use Rattle.fs_layout.specs.declared.attrs.Attrs.{Attrs}
use Rattle.fs_layout.specs.declared.reference.Reference.{Reference}
use Rattle.fs_layout.specs.Inodes.{SpellsInode}
use Rattle.fs_layout.specs.Places.{number_of}
use Rattle.fs_chain.specs.Chains.{SpellsChain}
use Rattle.fs_dir.specs.Slots.{SpellsSlots}
use Rattle.fs_rules.specs.declared.geometry.Geometry.{Geometry}
use Rattle.fs_rules.specs.declared.plain_tree.PlainTree.{PlainTree}
use Rattle.fs_rules.specs.Edits.{Edit, edited}
use Rattle.fs_rules.specs.Numbers.{kept_at}
use Rattle.mini_tx.specs.FlatMemory.{Flat, bytes_at}
use Rattle.fs_image.specs.Edits.{are_of, OnlyOf}
use Rattle.fs_image.specs.Owners.{Part, Chain, Block, Owners}
use Rattle.fs_image.specs.Places.{inode_bytes, block_bytes}
use Rattle.fs_image.specs.Stamps.{stamp}
use Rattle.fs_image.specs.Stands.{Shows}
use Rattle.node_cache.specs.declared.entry.Entry.{Entry}
use Rattle.node_cache.specs.declared.entry.HeldChain.{HeldChain}
use Rattle.node_cache.specs.declared.entry.HeldGroup.{HeldGroup}

-- the record of a file of this cluster lies there
pub record LiesAt (g : Geometry) (n m inode : ℕ) : Type 0 where
  pub is_memory : m < g.memories
  pub is_inode : inode < g.inodes
  pub number : n ≡ number_of m inode

-- there is such a block, and it holds bytes of this kind
abbrev pub IsThere : Geometry → Flat → (List ℕ → Type 0) → Option Reference → Type 0
IsThere g flat IsIt None = ⊥
IsThere g flat IsIt (Some p) = IsIt (block_bytes g flat p)

-- a group has the slots of the 64 blocks of its directory from 64 times its index on, 15 of each block that is there
pub record IsGroup (g : Geometry) (flat : Flat) (place : Part → Option Reference) (s : HeldGroup) : Type 0 where
  pub blocks : (j : ℕ) → 15 * j < length s.slots
      → (j < 64) × IsThere g flat (SpellsSlots (take 15 (drop (15 * j) s.slots))) (place (Block (64 * s.group + j)))
  pub whole : (j : ℕ) → j < 64 → IsSome (place (Block (64 * s.group + j))) → 15 * j < length s.slots

-- an entry is the flat memory's own: its record is what is spelled at the file's number, and its chaining blocks and
-- groups are what is spelled in the blocks that have these parts
pub record IsOwn (g : Geometry) (flat : Flat) (place : Part → Option Reference) (e : Entry) : Type 0 where
  pub record_is : (m inode : ℕ) → LiesAt g e.number m inode → SpellsInode e.attrs (inode_bytes flat m inode)
  pub chains : (i : ℕ) (c : HeldChain) → slice_get e.chains i ≡ Some c → IsThere g flat (SpellsChain c.chain) (place (Chain c.index))
  pub groups : (i : ℕ) (s : HeldGroup) → slice_get e.groups i ≡ Some s → IsGroup g flat place s

-- an entry is true of a flat memory: its file was changed at least as often there, and where it was changed just as often
-- the entry is the flat memory's own
pub record IsTrueEntry (g : Geometry) (flat : Flat) (place : Part → Option Reference) (e : Entry) : Type 0 where
  pub older : (m inode : ℕ) (a : Attrs) → LiesAt g e.number m inode → SpellsInode a (inode_bytes flat m inode) → e.attrs.change ≤ a.change
  pub same : (m inode : ℕ) (a : Attrs) → LiesAt g e.number m inode → SpellsInode a (inode_bytes flat m inode) → a.change ≡ e.attrs.change
      → IsOwn g flat place e

-- ---- it stays true

-- a file is as it was: its record, where its parts are, and what is there
pub record Stays (g : Geometry) (flat new : Flat) (w q : Part → Option Reference) (n : ℕ) : Type 0 where
  pub record_is : (m inode : ℕ) → LiesAt g n m inode → inode_bytes new m inode ≡ inode_bytes flat m inode
  pub places : (x : Part) → q x ≡ w x
  pub blocks : (x : Part) (p : Reference) → w x ≡ Some p → block_bytes g new p ≡ block_bytes g flat p

-- a file was changed more often
abbrev pub Rises : Geometry → Flat → Flat → ℕ → Type 0
Rises g flat new n = (m inode : ℕ) → LiesAt g n m inode
    → (a : Attrs) × SpellsInode a (inode_bytes flat m inode) × ((b : Attrs) → SpellsInode b (inode_bytes new m inode) → a.change < b.change)

abbrev pub TrueEntriesStay : Type 0
TrueEntriesStay = (g : Geometry) (flat new : Flat) (w q : Part → Option Reference) (e : Entry) → IsTrueEntry g flat w e
    → Stays g flat new w q e.number ⊎ Rises g flat new e.number → IsTrueEntry g new q e

-- how often the file of a number was changed, or what its number keeps of that
abbrev pub change_at : PlainTree → ℕ → ℕ
change_at t n = option_map_or (λ f. f.change) (table.get t.files n) (kept_at t n).change

-- edits of files whose change numbers they raise
abbrev pub Raises : PlainTree → PlainTree → List Edit → Type 0
Raises t u es = (n : ℕ) → are_of es n ≡ true → change_at t n < change_at u n

abbrev pub EditsKeepEntries : Type 0
EditsKeepEntries = (now : Stamp) (t : PlainTree) (es : List Edit) (flat new : Flat) (o p : Owners) (e : Entry) → Shows flat t o
    → OnlyOf t.geometry es flat new o p → Shows new (edited now t es) p → Raises t (edited now t es) es
    → IsTrueEntry t.geometry flat (o.place e.number) e → IsTrueEntry t.geometry new (p.place e.number) e

-- ---- a stamp that stands tells that it is the flat memory's own

abbrev pub MatchedEntriesAreOwn : Type 0
MatchedEntriesAreOwn = (g : Geometry) (flat : Flat) (place : Part → Option Reference) (e : Entry) (m inode : ℕ) (a : Attrs) (spelled : List ℕ)
    → LiesAt g e.number m inode → SpellsInode a (inode_bytes flat m inode) → SpellsInode e.attrs spelled
    → bytes_at (inode_bytes flat m inode) 24 16 ≡ stamp e.attrs → IsTrueEntry g flat place e → IsOwn g flat place e
