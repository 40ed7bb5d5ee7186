-- The boot number of a disk: it stands in one of two places, and a selector says in which.
use Rattle.std.specs.Prelude.{◌≡◌, ◌⊎◌, ℕ, ◌+◌, ◌%◌, ◌^◌, ◌<◌, ◌≤◌, ◌==◌, [], if◌then◌else◌}
use Rattle.std.specs.Int.{w64, to_be_bytes}
use Rattle.disk_model.specs.Crash.{Content, Snapshot, Holds}
use Rattle.gate_log.specs.declared.boot_cell.BootCell.{BootCell}
use Rattle.gate_log.specs.declared.side.Side.{Side}
use Rattle.gate_log.specs.declared.side.Side.TheVariants.{First, Second}

-- the side that a selector names: of its byte only the lowest bit counts
abbrev pub side_of : ℕ → Side
side_of selector = if selector % 2 == 0 then First else Second

-- the side that it does not name
abbrev pub other_side : Side → Side
other_side First = Second
other_side Second = First

-- where the number of a side stands
abbrev pub place_of : Side → ℕ
place_of First = 4096
place_of Second = 8192

-- this boot number stands there, as 8 bytes, the highest first
pub record HasBoot (content : Content) (boot : ℕ) : Type 0 where
  pub fits : boot < 2 ^ 64
  pub bytes : Holds content (place_of (side_of (content 0))) (to_be_bytes w64 boot)

-- the side that the selector names, and the number there
pub record IsStored (content : Content) (side : Side) (boot : ℕ) : Type 0 where
  pub selected : side_of (content 0) ≡ side
  pub stands : HasBoot content boot

-- the disk of a boot cell
abbrev pub boot_disk_of : {D : Type 0} → BootCell D → D
boot_disk_of cell = cell.disk

-- after a call that gave this number: it is one above the number that stood there, it stands there now, and
-- nothing is pending
pub record IsNextBoot (before now : Snapshot) (next : ℕ) : Type 0 where
  pub boot : ℕ
  pub was : HasBoot before.content boot
  pub above : next ≡ boot + 1
  pub stands : HasBoot now.content next
  pub safe : now.pending ≡ []

-- the number that was there, or the next one
abbrev pub IsSameOrNext : ℕ → Content → Type 0
IsSameOrNext boot image = HasBoot image boot ⊎ HasBoot image (boot + 1)

-- every place but the selector's and those of the two numbers has the same byte
abbrev pub IsSameElsewhere : Content → Content → Type 0
IsSameElsewhere content image = (place : ℕ) → 1 ≤ place
    → (place < 4096) ⊎ (4104 ≤ place) → (place < 8192) ⊎ (8200 ≤ place) → image place ≡ content place

-- what a crash leaves while the next number is asked for
pub record IsBooting (content image : Content) : Type 0 where
  pub number : (boot : ℕ) → HasBoot content boot → IsSameOrNext boot image
  pub rest : IsSameElsewhere content image
