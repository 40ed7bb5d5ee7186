-- What is read of records and maps, in the terms of the tree's rules.
use Rattle.std.specs.Prelude.{◌≡◌, ◌≢◌, ℕ, ◌+◌, ◌<◌, Bool, true, false, not, List, map, position, is_none, slice_get, Option, Some}
use Rattle.fs_bitmap.specs.Bits.{is_used, free_below}
use Rattle.fs_chain.specs.declared.chain_block.ChainBlock.{ChainBlock}
use Rattle.fs_chain.specs.Chains.{IsChain, SpellsChain}
use Rattle.fs_dir.specs.declared.slot.Slot.{Slot}
use Rattle.fs_dir.specs.Slots.{AreSlots, SpellsSlots, has_name, in_use}
use Rattle.fs_rules.specs.declared.entry.Entry.{Entry}
use Rattle.fs_rules.specs.Slots as rules
use Rattle.fs_image.specs.Parts.{slot_of}

-- ---- what is read can be written

abbrev pub ReadChainsAreChains : Type 0
ReadChainsAreChains = (c : ChainBlock) (bytes : List ℕ) → SpellsChain c bytes → IsChain c

abbrev pub ReadSlotsAreSlots : Type 0
ReadSlotsAreSlots = (slots : List Slot) (bytes : List ℕ) → SpellsSlots slots bytes → AreSlots slots

-- ---- a bit that is set is counted

-- one bit of a map becomes this, and no other changes
pub record IsSet (old new : List ℕ) (bit : ℕ) (on : Bool) : Type 0 where
  pub changed : is_used new bit ≡ on
  pub others : (k : ℕ) → k ≢ bit → is_used new k ≡ is_used old k

abbrev pub SetBitsAreCounted : Type 0
SetBitsAreCounted = (old new : List ℕ) (bit bits : ℕ) → bit < bits
    → (IsSet old new bit true → is_used old bit ≡ false → free_below new bits + 1 ≡ free_below old bits)
    × (IsSet old new bit false → is_used old bit ≡ true → free_below new bits ≡ free_below old bits + 1)
    × ((on : Bool) → IsSet old new bit on → is_used old bit ≡ on → free_below new bits ≡ free_below old bits)

-- ---- names are found alike in the slots of blocks and in those of the rules

-- slots that name no file 0
abbrev pub NameFiles : List (Option Entry) → Type 0
NameFiles slots = (i : ℕ) (e : Entry) → slice_get slots i ≡ Some (Some e) → e.file ≢ 0

abbrev pub SlotsAreFoundAlike : Type 0
SlotsAreFoundAlike = (slots : List (Option Entry)) → NameFiles slots
    → ((name : List ℕ) → position (has_name name) (map slot_of slots) ≡ rules.slot_of slots name)
    × (position (λ s. not (in_use s)) (map slot_of slots) ≡ position is_none slots)
