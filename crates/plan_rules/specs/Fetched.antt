-- How a part is fetched, and what is held once it was read.
use Rattle.std.specs.Prelude.{◌≡◌, ℕ, ◌+◌, ◌-◌, ◌*◌, ◌<◌, ◌==◌, nat_le, min, Bool, true, false, if◌then◌else◌, List, [], ◌∷◌, ◌++◌, length, map, take, drop, filter, flat_map, slice_get, slice_set, Some}
use Rattle.std.specs.Option.{option_map_or}
use Rattle.fs_layout.specs.declared.attrs.Attrs.{Attrs}
use Rattle.fs_layout.specs.declared.reference.Reference.{Reference}
use Rattle.fs_layout.specs.Inodes.{SpellsInode}
use Rattle.fs_layout.specs.Places.{record_at, block_place}
use Rattle.fs_chain.specs.declared.chain_block.ChainBlock.{ChainBlock}
use Rattle.fs_chain.specs.Chains.{SpellsChain}
use Rattle.fs_dir.specs.declared.slot.Slot.{Slot}
use Rattle.fs_dir.specs.Slots.{SpellsSlots}
use Rattle.fs_rules.specs.declared.geometry.Geometry.{Geometry}
use Rattle.fs_rules.specs.Lists.{below}
use Rattle.fs_image.specs.Owners.{Part, Chain, Block}
use Rattle.fs_image.specs.Places.{layout_of}
use Rattle.mini_tx.specs.declared.item.Item.{Item}
use Rattle.mini_tx.specs.declared.item.Item.TheVariants as item
use Rattle.mini_tx.specs.Minitransactions.{bytes_of}
use Rattle.node_cache.specs.declared.entry.Entry.{Entry}
use Rattle.node_cache.specs.declared.entry.HeldChain.{HeldChain}
use Rattle.node_cache.specs.declared.entry.HeldGroup.{HeldGroup}
use Rattle.node_cache.specs.declared.held.Held.{Held}
use Rattle.node_cache.specs.declared.want.Want.{Want}
use Rattle.node_cache.specs.declared.want.Want.TheVariants as want
use Rattle.node_cache.specs.Cached.{held_of}
use Rattle.plan_rules.specs.Told.{memory_at, inode_at, at_record, place_of, dir_blocks}
use Rattle.plan_rules.specs.Compared.{stamp_items}
use Rattle.plan_rules.specs.Fits.{IsFitRecord, IsFitChain, AreFitSlots}

-- ---- fetching

-- whether an item reads
abbrev pub is_read : Item → Bool
is_read (item.Compare memory at bytes) = false
is_read (item.Read memory at len) = true
is_read (item.Write memory at bytes) = false

-- the read of a block
abbrev pub block_read : Geometry → Reference → Item
block_read g r = item.Read r.memory (block_place (layout_of g) r.block) 4096

-- that of a part of a file
abbrev pub part_read : Held → ℕ → Part → List Item
part_read held n x = option_map_or (λ r. block_read held.geometry r ∷ []) (place_of held n x) []

-- how many blocks of a directory lie in a group
abbrev pub blocks_in : Held → ℕ → ℕ → ℕ
blocks_in held n g = at_record held n 0 (λ a. min 64 (dir_blocks a - 64 * g))

-- the items that fetch a part: blocks of a file are read where its stamp stands
unfoldable pub fetched : Held → Want → List Item
fetched held (want.Inode n) = item.Read (memory_at n) (record_at (inode_at n)) 128 ∷ []
fetched held (want.Chain n k) = stamp_items held n ++ part_read held n (Chain k)
fetched held (want.Slots n g) = stamp_items held n ++ flat_map (λ j. part_read held n (Block (64 * g + j))) (below (blocks_in held n g))
fetched held (want.Map m) = item.Read m 4096 4096 ∷ []

-- the read items of a minitransaction
abbrev pub read_items : List Item → List Item
read_items items = filter is_read items

-- what was read is as much and as long as these items read
abbrev pub AreReads : List Item → List (List ℕ) → Type 0
AreReads items reads = map length reads ≡ map bytes_of (read_items items)

-- ---- keeping

-- an entry among others in ascending number, in the place of one of its number
unfoldable pub put_entry : Entry → List Entry → List Entry
put_entry e [] = e ∷ []
put_entry e (f ∷ fs) = if nat_le e.number f.number then if f.number == e.number then e ∷ fs else e ∷ f ∷ fs else f ∷ put_entry e fs

-- a record is held: what else was held of its file was that of an older one
abbrev pub with_record : Held → ℕ → Attrs → Held
with_record held n a = record held { entries = put_entry (record { number = n; attrs = a; chains = []; groups = [] }) held.entries }

-- the entry of a number becomes another
unfoldable pub changed_in : ℕ → (Entry → Entry) → List Entry → List Entry
changed_in n change [] = []
changed_in n change (e ∷ es) = if n == e.number then change e ∷ es else e ∷ changed_in n change es

-- a chaining block, or a group of slots, is held beside what was held of its file
abbrev pub with_chain : Held → ℕ → HeldChain → Held
with_chain held n c = record held { entries = changed_in n (λ e. record e { chains = e.chains ++ c ∷ [] }) held.entries }

abbrev pub with_group : Held → ℕ → HeldGroup → Held
with_group held n s = record held { entries = changed_in n (λ e. record e { groups = e.groups ++ s ∷ [] }) held.entries }

-- the maps of a memory node are held
abbrev pub with_maps : Held → ℕ → List ℕ → Held
with_maps held m page = record held { maps = slice_set held.maps m (Some page) }

-- what was read is fit for a part: it spells such a record, chaining block or slots; maps are fit whatever they are
abbrev pub IsFitRecordRead : Held → List ℕ → Type 0
IsFitRecordRead held bytes = (a : Attrs) × SpellsInode a bytes × IsFitRecord held.geometry a

pub record IsFitChainRead (held : Held) (n k : ℕ) (bytes : List ℕ) : Type 0 where
  pub entry : Entry
  pub here : held_of n held.entries ≡ Some entry
  pub chain : ChainBlock
  pub spelled : SpellsChain chain bytes
  pub fit : IsFitChain held.geometry entry.attrs n k chain

abbrev pub AreFitSlotsRead : Held → List ℕ → Type 0
AreFitSlotsRead held bytes = (s : List Slot) × SpellsSlots s bytes × AreFitSlots held.geometry s

abbrev pub IsFitRead : Held → Want → List ℕ → Type 0
IsFitRead held (want.Inode n) bytes = IsFitRecordRead held bytes
IsFitRead held (want.Chain n k) bytes = IsFitChainRead held n k bytes
IsFitRead held (want.Slots n g) bytes = AreFitSlotsRead held bytes
IsFitRead held (want.Map m) bytes = Unit {0}

-- a record is held after it was read
pub record IsRecordKept (held : Held) (n : ℕ) (reads : List (List ℕ)) (new : Held) : Type 0 where
  pub attrs : Attrs
  pub bytes : List ℕ
  pub read : reads ≡ bytes ∷ []
  pub spelled : SpellsInode attrs bytes
  pub fit : IsFitRecord held.geometry attrs
  pub new_is : new ≡ with_record held n attrs

-- a chaining block
pub record IsChainKept (held : Held) (n k : ℕ) (reads : List (List ℕ)) (new : Held) : Type 0 where
  pub entry : Entry
  pub here : held_of n held.entries ≡ Some entry
  pub chain : ChainBlock
  pub bytes : List ℕ
  pub read : reads ≡ bytes ∷ []
  pub spelled : SpellsChain chain bytes
  pub fit : IsFitChain held.geometry entry.attrs n k chain
  pub new_is : new ≡ with_chain held n (record { index = k; chain = chain })

-- a group of slots: 15 of each block
pub record IsGroupKept (held : Held) (n g : ℕ) (reads : List (List ℕ)) (new : Held) : Type 0 where
  pub slots : List Slot
  pub sized : length slots ≡ 15 * length reads
  pub spelled : (j : ℕ) (bytes : List ℕ) → slice_get reads j ≡ Some bytes → SpellsSlots (take 15 (drop (15 * j) slots)) bytes
  pub fit : AreFitSlots held.geometry slots
  pub new_is : new ≡ with_group held n (record { group = g; slots = slots })

-- the maps of a memory node
pub record AreMapsKept (held : Held) (m : ℕ) (reads : List (List ℕ)) (new : Held) : Type 0 where
  pub bytes : List ℕ
  pub read : reads ≡ bytes ∷ []
  pub new_is : new ≡ with_maps held m bytes

-- just the part that was read is held beside what was
abbrev pub IsKept : Held → Want → List (List ℕ) → Held → Type 0
IsKept held (want.Inode n) reads new = IsRecordKept held n reads new
IsKept held (want.Chain n k) reads new = IsChainKept held n k reads new
IsKept held (want.Slots n g) reads new = IsGroupKept held n g reads new
IsKept held (want.Map m) reads new = AreMapsKept held m reads new

-- what was read is unfit, and this is where the first record or block lies that is
pub record IsUnfitAt (held : Held) (w : Want) (reads : List (List ℕ)) (memory at : ℕ) : Type 0 where
  pub index : ℕ
  pub len : ℕ
  pub bytes : List ℕ
  pub read : slice_get reads index ≡ Some bytes
  pub item_is : slice_get (read_items (fetched held w)) index ≡ Some (item.Read memory at len)
  pub unfit : IsFitRead held w bytes → ⊥
  pub before : (i : ℕ) (b : List ℕ) → i < index → slice_get reads i ≡ Some b → IsFitRead held w b
