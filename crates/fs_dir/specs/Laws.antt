-- What is spelled has one value.
use Rattle.std.specs.Prelude.{◌≡◌, ℕ, List}
use Rattle.fs_dir.specs.declared.slot.Slot.{Slot}
use Rattle.fs_dir.specs.Slots.{SpellsSlots}

abbrev pub SlotsHaveOneValue : Type 0
SlotsHaveOneValue = (slots others : List Slot) (bytes : List ℕ) → SpellsSlots slots bytes → SpellsSlots others bytes → slots ≡ others
