-- What a file contains, as its blocks are read one by one.
use Rattle.std.specs.Prelude.{◌≡◌, ℕ, ◌+◌, ◌*◌, ◌/◌, ◌<◌, ◌≤◌, ◌==◌, ◌++◌, false, if◌then◌else◌, true, List, length, map, slice_get, Option, Some, None, is_some}
use Rattle.std.specs.FinMap as table
use Rattle.fs_layout.specs.declared.reference.Reference.{Reference}
use Rattle.fs_bitmap.specs.Bits.{is_used}
use Rattle.fs_dir.specs.declared.slot.Slot.{Slot}
use Rattle.fs_dir.specs.Slots.{SpellsSlots}
use Rattle.fs_rules.specs.declared.content.Content.{Content}
use Rattle.fs_rules.specs.declared.content.Content.TheVariants.{Regular, Link, Directory}
use Rattle.fs_rules.specs.declared.entry.Entry.{Entry}
use Rattle.fs_rules.specs.declared.geometry.Geometry.{Geometry}
use Rattle.fs_rules.specs.File.{kind_of, slots_of, parent_of}
use Rattle.mini_tx.specs.FlatMemory.{Flat}
use Rattle.fs_image.specs.Owners.{Part, Block}
use Rattle.fs_image.specs.Parts.{chains_of, is_stored, has_part, slot_of, HoldsBlock, Holds}
use Rattle.fs_image.specs.Places.{block_bytes}
use Rattle.fs_image.specs.Records.{IsSet, NameFiles}
use Rattle.fs_image.specs.Stands.{IsBlock}
use Rattle.fs_reader.specs.Marks.{bit_of, turn, Takes, CanTake}

-- ---- one block more

-- the slots that bytes spell
pub record AreSlotsOf (slots : List (Option Entry)) (bytes : List ℕ) : Type 0 where
  pub spelled : SpellsSlots (map slot_of slots) bytes
  pub names : NameFiles slots

-- the entry of a slot, if it has a file
abbrev pub entry_of : Slot → Option Entry
entry_of s = if s.number == 0 then None else Some (record { file = s.number; name = s.name })

-- the slots of one block more, with this index
pub record HasMoreSlots (slots : List (Option Entry)) (index : ℕ) (bytes : List ℕ) (news : List (Option Entry)) : Type 0 where
  pub sized : length slots ≡ 15 * index
  pub more : List (Option Entry)
  pub are : AreSlotsOf more bytes
  pub new_is : news ≡ slots ++ more

-- a directory that has them
pub record HasMore (before : List (Option Entry)) (parent index : ℕ) (bytes : List ℕ) (new : Content) : Type 0 where
  pub slots : List (Option Entry)
  pub has : HasMoreSlots before index bytes slots
  pub new_is : new ≡ Directory slots parent

-- a content has the block with this index beside what it had; a directory's blocks come one behind the other
abbrev pub IsPut : Content → ℕ → List ℕ → Content → Type 0
IsPut (Regular blocks) index bytes new = new ≡ Regular (table.insert blocks index bytes)
IsPut (Directory slots parent) index bytes new = HasMore slots parent index bytes new
IsPut (Link blocks) index bytes new = new ≡ Link (table.insert blocks index bytes)

-- the slots of one block more can be had
abbrev pub CanHaveMore : List (Option Entry) → ℕ → List ℕ → Type 0
CanHaveMore slots index bytes = (length slots ≡ 15 * index) × (s : List Slot) × SpellsSlots s bytes

-- it can have it: a directory's block is the next one, and spells slots
abbrev pub CanPut : Content → ℕ → List ℕ → Type 0
CanPut (Regular blocks) index bytes = Unit {0}
CanPut (Directory slots parent) index bytes = CanHaveMore slots index bytes
CanPut (Link blocks) index bytes = Unit {0}

-- ---- all blocks

-- a content is what the blocks at its places hold; the most chaining blocks that a file has are eight
pub record IsContentAt (block : Reference → List ℕ) (n : ℕ) (place : Part → Option Reference) (c : Content) : Type 0 where
  pub there : (x : Part) → is_some (place x) ≡ has_part c x
  pub holds : (x : Part) (r : Reference) → place x ≡ Some r → Holds place n c x (block r)
  pub sized : length (slots_of c) ≡ 15 * (length (slots_of c) / 15)
  pub names : NameFiles (slots_of c)
  pub few : chains_of c ≤ 8

-- two contents of one kind, and of one parent where they are directories
pub record IsOfKind (c d : Content) : Type 0 where
  pub kind : kind_of c ≡ kind_of d
  pub parent : parent_of c ≡ parent_of d

-- the parts before a turn were read: their marks are taken, and the content is what their blocks hold
pub record IsReadTo (g : Geometry) (flat : Flat) (place : Part → Option Reference) (turns : ℕ) (empty : Content) (start left : List ℕ) (c : Content) : Type 0 where
  pub takes : Takes g place turns start left
  pub there : (i : ℕ) → turn (Block i) < turns → is_some (place (Block i)) ≡ is_stored c i
  pub beyond : (i : ℕ) → turns ≤ turn (Block i) → is_stored c i ≡ false
  pub holds : (i : ℕ) (r : Reference) → turn (Block i) < turns → place (Block i) ≡ Some r → HoldsBlock c i (block_bytes g flat r)
  pub sized : length (slots_of c) ≡ 15 * (length (slots_of c) / 15)
  pub names : NameFiles (slots_of c)
  pub kind : IsOfKind empty c

-- a content of this kind lies at the places, and its blocks can be taken
pub record IsClaimed (g : Geometry) (flat : Flat) (n : ℕ) (place : Part → Option Reference) (empty : Content) (start : List ℕ) (d : Content) : Type 0 where
  pub content : IsContentAt (block_bytes g flat) n place d
  pub kind : IsOfKind empty d
  pub marks : CanTake g place start

-- references from a chaining block's first index on
abbrev pub Refers : (Part → Option Reference) → ℕ → List (Option Reference) → Type 0
Refers place index references = (j : ℕ) → j < 510 → slice_get references j ≡ Some (place (Block (510 * index + j)))

-- ---- one reference of a chaining block

-- a block was read as the stored block with this index: it is of this cluster and was marked, its mark is taken, and the
-- content has it
pub record IsBlockRead (g : Geometry) (flat : Flat) (at : Reference) (index : ℕ) (left : List ℕ) (c : Content) (new : List ℕ) (d : Content) : Type 0 where
  pub inside : IsBlock g at
  pub marked : is_used left (bit_of at) ≡ true
  pub set : IsSet left new (bit_of at) false
  pub put : IsPut c index (block_bytes g flat at) d

-- it can be
pub record CanBlockBeRead (g : Geometry) (flat : Flat) (at : Reference) (index : ℕ) (left : List ℕ) (c : Content) : Type 0 where
  pub inside : IsBlock g at
  pub marked : is_used left (bit_of at) ≡ true
  pub put : CanPut c index (block_bytes g flat at)

-- what a reference refers to was read
abbrev pub IsReferenceRead : Geometry → Flat → Option Reference → ℕ → List ℕ → Content → List ℕ → Content → Type 0
IsReferenceRead g flat None index left c new d = (new ≡ left) × (d ≡ c)
IsReferenceRead g flat (Some at) index left c new d = IsBlockRead g flat at index left c new d

abbrev pub CanBeRead : Geometry → Flat → Option Reference → ℕ → List ℕ → Content → Type 0
CanBeRead g flat None index left c = Unit {0}
CanBeRead g flat (Some at) index left c = CanBlockBeRead g flat at index left c

-- ---- the references of a chaining block

-- where the parts before one turn were read, those before another are, at all places of which this is known
abbrev pub ReadsTo : Geometry → Flat → ((Part → Option Reference) → Type 0) → ℕ → ℕ → List ℕ → Content → List ℕ → Content → Type 0
ReadsTo g flat Know turns later left c new d = (place : Part → Option Reference) (empty : Content) (start : List ℕ) → Know place → IsReadTo g flat place turns empty start left c
    → IsReadTo g flat place later empty start new d

-- where the parts before a turn were read, no content is claimed at places of which this is known
abbrev pub IsNoneClaimed : Geometry → Flat → ((Part → Option Reference) → Type 0) → ℕ → List ℕ → Content → Type 0
IsNoneClaimed g flat Know turns left c = (n : ℕ) (place : Part → Option Reference) (empty : Content) (start : List ℕ) (d : Content) → Know place
    → IsReadTo g flat place turns empty start left c → IsClaimed g flat n place empty start d → ⊥
