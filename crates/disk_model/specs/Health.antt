-- The health of a disk: what it counts, what it still lets pass, and what a call makes of it.
use Rattle.std.specs.Prelude.{◌≡◌, ◌≢◌, ◌⊎◌, ℕ, ◌+◌, ◌-◌, ◌^◌, ◌≤◌, min, Bool, true, false, IsTrue, Option, None, Some, Result, OnOk, OnErr}
use Rattle.sfs_base.specs.Fault.{Rose}

pub record Health : Type 0 where
  -- how many calls failed so far; it stands still at the last value of a u64
  pub faults : ℕ
  -- the same without those that a stop refused
  pub own_faults : ℕ
  -- how many calls reached the disk; it stands still at the last value of a u64
  pub calls : ℕ
  -- how many writes and syncs pass until a stop, where there is one
  pub allows : Option ℕ
  -- it once found no memory, and fails at every call
  pub is_starved : Bool
  -- no call failed since it was made, or restarted
  pub is_usable : Bool
  -- a restart takes the image that is named
  pub is_exact : Bool

-- the count after this one, which stands still at the last value of a u64
abbrev pub next_count : ℕ → ℕ
next_count n = min (n + 1) (2 ^ 64 - 1)

-- the count after so many
abbrev pub count_after : ℕ → ℕ → ℕ
count_after calls n = min (n + calls) (2 ^ 64 - 1)

-- a failure has a cause: the count rose, or the disk is starved
abbrev pub FailedFor : ℕ → ℕ → Bool → Type 0
FailedFor before now starved = Rose before now ⊎ IsTrue starved

-- what a stop lets pass after this many writes and syncs
abbrev pub less : ℕ → Option ℕ → Option ℕ
less steps None = None
less steps (Some n) = Some (n - steps)

-- a stop lets as many pass
abbrev pub Lets : ℕ → Option ℕ → Type 0
Lets steps None = Unit {0}
Lets steps (Some n) = steps ≤ n

-- so many writes and syncs passed, and no call failed
pub record Passed (steps : ℕ) (before now : Health) : Type 0 where
  pub faults : now.faults ≡ before.faults
  pub own : now.own_faults ≡ before.own_faults
  pub spent : now.allows ≡ less steps before.allows
  pub starved : now.is_starved ≡ before.is_starved
  pub usable : now.is_usable ≡ before.is_usable
  pub exact : now.is_exact ≡ before.is_exact

-- a disk on which a call, or so many writes and syncs, may succeed: it is not starved, and no stop is in the way
pub record IsLive (steps : ℕ) (before : Health) : Type 0 where
  pub fed : before.is_starved ≡ false
  pub passes : before.allows ≢ Some 0
  pub lets : Lets steps before.allows

-- a call failed, behind so many writes and syncs at the most: the count rose or the disk is starved, and without a
-- stop it was the count of its own. Until a restart it is of no use
pub record Fell (steps : ℕ) (before now : Health) : Type 0 where
  pub later : before.faults ≤ now.faults
  pub own_later : before.own_faults ≤ now.own_faults
  pub failed : FailedFor before.faults now.faults now.is_starved
  pub cause : FailedFor before.own_faults now.own_faults now.is_starved ⊎ (now.allows ≡ Some 0)
  pub made : ℕ
  pub within : made ≤ steps
  pub spent : now.allows ≡ less made before.allows
  pub starved : IsTrue before.is_starved → IsTrue now.is_starved
  pub unusable : now.is_usable ≡ false
  pub exact : now.is_exact ≡ before.is_exact

-- a restart succeeded: no stop is left, and the disk may be used
pub record Revived (before now : Health) : Type 0 where
  pub faults : now.faults ≡ before.faults
  pub own : now.own_faults ≡ before.own_faults
  pub passes : now.allows ≡ None
  pub fed : (before.is_starved ≡ false) × (now.is_starved ≡ false)
  pub usable : now.is_usable ≡ true
  pub exact : now.is_exact ≡ before.is_exact

-- what is said of the bytes of a disk is said where it tells them and may be used
abbrev pub Speaks : {D : Type 0} → (D → Type 0) → (D → Health) → D → Type 0
Speaks tells health disk = tells disk × ((health disk).is_usable ≡ true)

-- what each call hands on, and each function that makes calls, with so many writes and syncs
pub record Hands {D X E : Type 0} (tells : D → Type 0) (health : D → Health)
    (steps : ℕ) (old new : D) (result : Result X E) : Type 0 where
  pub still : Speaks tells health old → tells new
  pub speaks : OnOk result (Speaks tells health old → Speaks tells health new)
  pub passed : OnOk result (Passed steps (health old) (health new))
  pub live : OnOk result (IsLive steps (health old))
  pub fell : OnErr result (Fell steps (health old) (health new))
