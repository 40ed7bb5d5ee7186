-- The bits of a map once blocks were taken or given up.
use Rattle.std.specs.Prelude.{◌≡◌, ℕ, Bool, if◌then◌else◌, List, length}
use Rattle.std.specs.List.{list_any}
use Rattle.fs_layout.specs.declared.reference.Reference.{Reference}
use Rattle.fs_bitmap.specs.Bits.{is_used}
use Rattle.fs_image.specs.Owners.{is_same_place}

-- whether one of these is a block of a memory node
abbrev pub has_block : List Reference → ℕ → ℕ → Bool
has_block places m b = list_any (λ r. is_same_place (record { memory = m; block = b }) r) places

-- the bit of each of these blocks of a memory node says whether it is used, and every other bit is as it was
pub record AreMarked (m : ℕ) (places : List Reference) (on : Bool) (old new : List ℕ) : Type 0 where
  pub sized : length new ≡ length old
  pub bits : (b : ℕ) → is_used new b ≡ (if has_block places m b then on else is_used old b)
