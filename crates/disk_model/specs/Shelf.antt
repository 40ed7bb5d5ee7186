-- The shelf in memory, as contracts see it.
use Rattle.std.specs.Prelude.{◌≡◌, ℕ, ◌&&◌, Bool, true, List, [], Option, None, is_some, not, length, nat_lt, slice_index_or}
use Rattle.disk_model.specs.Crash.{History}
use Rattle.disk_model.specs.Health.{Health}
use Rattle.disk_model.specs.Plan.{Plan}

pub record Stock : Type 0 where
  -- the disks by number, where they were not taken
  pub disks : List (Option Plan)
  -- the numbers of the takes that fail; the first take has the number 1
  pub failing : List ℕ
  -- how many takes there were
  pub calls : ℕ
  -- how many of them failed
  pub faults : ℕ

-- the disk that lies there
abbrev pub disk_at : List (Option Plan) → ℕ → Option Plan
disk_at disks k = slice_index_or disks k None

-- the disk of this number was taken
abbrev pub was_taken : List (Option Plan) → ℕ → Bool
was_taken disks k = nat_lt k (length disks) && not (is_some (disk_at disks k))

-- nothing is pending on the disk, and it may be used
abbrev pub IsAtRest : {D : Type 0} → (D → History) → (D → Health) → D → Type 0
IsAtRest history health disk = ((history disk).now.pending ≡ []) × ((health disk).is_usable ≡ true)
