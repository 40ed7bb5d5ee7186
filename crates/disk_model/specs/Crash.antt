-- What a disk holds, what it went through, and what a crash may leave.
use Rattle.std.specs.Prelude.{◌≡◌, ◌⊎◌, ℕ, ◌+◌, ◌-◌, ◌<◌, Bool, false, ◌&&◌, ◌||◌, List, [], ◌∷◌, ◌++◌, length, slice_index, nat_le, nat_lt, if◌then◌else◌}

-- the byte at each place
abbrev pub Content : Type 0
Content = ℕ → ℕ

-- a place is one of the n places from `at` on
abbrev pub covers : ℕ → ℕ → ℕ → Bool
covers at n place = nat_le at place && nat_lt place (at + n)

-- a place lies in one of the ranges, each of them its first place and its length
abbrev pub is_pending : List (ℕ × ℕ) → ℕ → Bool
is_pending [] place = false
is_pending (range ∷ ranges) place = covers range.0 range.1 place || is_pending ranges place

-- a disk at one moment
pub record Snapshot : Type 0 where
  -- what a read gives
  pub content : Content
  -- the ranges that were written since the last sync or restart that succeeded
  pub pending : List (ℕ × ℕ)

-- a crash at that moment may leave this: any bytes in what is pending, and the content elsewhere
pub record MayLeave (snapshot : Snapshot) (image : Content) : Type 0 where
  pub same : (place : ℕ) → is_pending snapshot.pending place ≡ false → image place ≡ snapshot.content place

-- the moments that a disk went through, the latest first
pub record History : Type 0 where
  pub now : Snapshot
  pub past : List Snapshot

abbrev pub moments : History → List Snapshot
moments history = history.now ∷ history.past

-- one moment more
abbrev pub advance : History → Snapshot → History
advance history snapshot = record { now = snapshot; past = moments history }

-- the content holds these bytes from a place on
pub record Holds (content : Content) (at : ℕ) (bytes : List ℕ) : Type 0 where
  pub each : (i : ℕ) → i < length bytes → content (at + i) ≡ slice_index bytes i

-- the content with these bytes from a place on
abbrev pub put : Content → ℕ → List ℕ → Content
put content at bytes place = if covers at (length bytes) place then slice_index bytes (place - at) else content place

-- after a write
abbrev pub written : Snapshot → ℕ → List ℕ → Snapshot
written snapshot at bytes = record {
  content = put snapshot.content at bytes;
  pending = (at, length bytes) ∷ snapshot.pending;
}

-- a range is pending, of which no byte arrived
abbrev pub touched : Snapshot → ℕ → ℕ → Snapshot
touched snapshot at n = record { content = snapshot.content; pending = (at, n) ∷ snapshot.pending }

-- nothing is pending
abbrev pub settled : Content → Snapshot
settled content = record { content = content; pending = [] }

-- a crash leaves no more than in the other
abbrev pub LeavesNoMore : Snapshot → Snapshot → Type 0
LeavesNoMore snapshot other = (image : Content) → MayLeave snapshot image → MayLeave other image

-- after a call that failed: nothing changed, or one moment passed in which a crash leaves no more than this bound
abbrev pub IsWithin : Snapshot → History → History → Type 0
IsWithin bound before now = (now ≡ before)
    ⊎ ((snapshot : Snapshot) × LeavesNoMore snapshot bound × (now ≡ advance before snapshot))

-- a crash at each of these moments leaves what has P
abbrev pub AllLeave : (Content → Type 0) → List Snapshot → Type 0
AllLeave P [] = Unit {0}
AllLeave P (snapshot ∷ snapshots) = ((image : Content) → MayLeave snapshot image → P image) × AllLeave P snapshots

-- a crash at any moment from `before` on, up to now, leaves what has P
pub record LeavesOnly (before now : History) (P : Content → Type 0) : Type 0 where
  pub since : List Snapshot
  pub went_on : moments now ≡ since ++ moments before
  pub at_first : (image : Content) → MayLeave before.now image → P image
  pub each : AllLeave P since
