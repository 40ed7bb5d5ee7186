-- What was read of a file's blocks, and what of it is unfit.
use Rattle.std.specs.Prelude.{◌≡◌, ℕ, ◌+◌, ◌*◌, ◌<◌, List, length, take, drop, slice_get, Some}
use Rattle.fs_chain.specs.declared.chain_block.ChainBlock.{ChainBlock}
use Rattle.fs_chain.specs.Chains.{SpellsChain}
use Rattle.fs_dir.specs.declared.slot.Slot.{Slot}
use Rattle.fs_dir.specs.Slots.{SpellsSlots}
use Rattle.fs_layout.specs.declared.reference.Reference.{Reference}
use Rattle.fs_layout.specs.Places.{block_place}
use Rattle.fs_rules.specs.declared.geometry.Geometry.{Geometry}
use Rattle.fs_image.specs.Owners.{Block}
use Rattle.fs_image.specs.Places.{layout_of}
use Rattle.node_cache.specs.declared.entry.Entry.{Entry}
use Rattle.node_cache.specs.declared.held.Held.{Held}
use Rattle.node_cache.specs.Cached.{held_of}
use Rattle.plan_rules.specs.Told.{place_of}
use Rattle.plan_rules.specs.Fits.{IsFitChain, AreFitSlots}
use Rattle.plan_rules.specs.Fetched.{AreFitSlotsRead}

-- a chaining block that bytes spell is fit at its place in the list of a file whose record is held
pub record IsLinkRead (held : Held) (n k : ℕ) (bytes : List ℕ) (c : ChainBlock) : Type 0 where
  pub entry : Entry
  pub here : held_of n held.entries ≡ Some entry
  pub spelled : SpellsChain c bytes
  pub fit : IsFitChain held.geometry entry.attrs n k c

-- the slots that so many of these blocks spell, one behind the other: 15 of each
pub record AreSlotsRead (g : Geometry) (reads : List (List ℕ)) (count : ℕ) (slots : List Slot) : Type 0 where
  pub sized : length slots ≡ 15 * count
  pub spelled : (j : ℕ) (bytes : List ℕ) → j < count → slice_get reads j ≡ Some bytes → SpellsSlots (take 15 (drop (15 * j) slots)) bytes
  pub fit : AreFitSlots g slots

-- a block lies there
pub record LiesThere (g : Geometry) (r : Reference) (memory at : ℕ) : Type 0 where
  pub memory_is : memory ≡ r.memory
  pub at_is : at ≡ block_place (layout_of g) r.block

-- the first block of a group that was read and is unfit, and where it lies
pub record IsUnfitBlock (held : Held) (n g : ℕ) (reads : List (List ℕ)) (memory at : ℕ) : Type 0 where
  pub index : ℕ
  pub bytes : List ℕ
  pub read : slice_get reads index ≡ Some bytes
  pub place : Reference
  pub place_is : place_of held n (Block (64 * g + index)) ≡ Some place
  pub lies : LiesThere held.geometry place memory at
  pub unfit : AreFitSlotsRead held bytes → ⊥
  pub before : (i : ℕ) (b : List ℕ) → i < index → slice_get reads i ≡ Some b → AreFitSlotsRead held b

-- a block of a directory that was read is unfit, and lies there
pub record IsNthUnfit (held : Held) (n i : ℕ) (bytes : List ℕ) (memory at : ℕ) : Type 0 where
  pub place : Reference
  pub place_is : place_of held n (Block i) ≡ Some place
  pub lies : LiesThere held.geometry place memory at
  pub unfit : AreFitSlotsRead held bytes → ⊥
