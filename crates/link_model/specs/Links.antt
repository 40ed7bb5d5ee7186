-- What a link has of the messages that were posted on it.
use Rattle.std.specs.Prelude.{◌≡◌, ◌≢◌, ℕ, zero, suc, ◌<◌, Bool, true, false, List, length, slice_get, Option, None, Some, IsSome}
use Rattle.mini_tx.specs.declared.posted.Posted.{Posted}

-- message k of these: numbers count from 1
abbrev pub numbered : List Posted → ℕ → Option Posted
numbered posted zero = None
numbered posted (suc i) = slice_get posted i

-- what a link shows
pub record Shown : Type 0 where
  -- how many messages were posted
  pub count : ℕ
  -- the message of each number that can be given
  pub there : ℕ → Option Posted
  -- the message of this number was neither given nor lost
  pub waits : ℕ → Bool

-- a link shows what it has of all that was posted, oldest first
pub record IsOf (posted : List Posted) (shown : Shown) : Type 0 where
  pub count : shown.count ≡ length posted
  -- what can be given was posted under its number
  pub known : (k : ℕ) (p : Posted) → shown.there k ≡ Some p → numbered posted k ≡ Some p
  -- what waits can be given
  pub waiting : (k : ℕ) → shown.waits k ≡ true → IsSome (shown.there k)

-- two links show the same
pub record IsAlike (s t : Shown) : Type 0 where
  pub count : t.count ≡ s.count
  pub there : (k : ℕ) → t.there k ≡ s.there k
  pub waits : (k : ℕ) → t.waits k ≡ s.waits k

-- one message more, under this number, which waits
pub record IsPosted (p : Posted) (k : ℕ) (s t : Shown) : Type 0 where
  pub number : k ≡ suc s.count
  pub count : t.count ≡ suc s.count
  pub there : t.there k ≡ Some p
  pub waits : t.waits k ≡ true
  pub others : (j : ℕ) → j ≢ k → (t.there j ≡ s.there j) × (t.waits j ≡ s.waits j)

-- message k waits no more, and nothing else changes
pub record IsPassed (k : ℕ) (s t : Shown) : Type 0 where
  pub count : t.count ≡ s.count
  pub waits : t.waits k ≡ false
  pub there : (j : ℕ) → j ≢ k → t.there j ≡ s.there j
  pub others : (j : ℕ) → j ≢ k → t.waits j ≡ s.waits j

-- the least number that waits
pub record IsLeast (shown : Shown) (k : ℕ) : Type 0 where
  pub waits : shown.waits k ≡ true
  pub before : (j : ℕ) → j < k → shown.waits j ≡ false
