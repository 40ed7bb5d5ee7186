-- The messages of a local link, in the order of their numbers: those that were given are gone.
use Rattle.std.specs.Prelude.{◌≡◌, ◌≢◌, ℕ, zero, suc, ◌+◌, ◌<◌, ◌≤◌, true, false, List, [], ◌∷◌, length, slice_get, Option, None, Some, option_map}
use Rattle.std.specs.Option.{option_map_or, option_and_then}
use Rattle.mini_tx.specs.declared.posted.Posted.{Posted}
use Rattle.link_model.specs.declared.place.Place.{Place}
use Rattle.link_model.specs.Links.{numbered, Shown}

-- where message k lies behind the first `gone` ones: numbers count from 1
unfoldable pub index_of : ℕ → ℕ → Option ℕ
index_of zero zero = None
index_of zero (suc i) = Some i
index_of (suc gone) zero = None
index_of (suc gone) (suc k) = index_of gone k

-- what lies there
abbrev pub there_at : List (Option Place) → ℕ → Option Place
there_at slots i = option_and_then (λ (slot : Option Place). slot) (slice_get slots i)

-- the place of message k
abbrev pub slot_of : ℕ → List (Option Place) → ℕ → Option Place
slot_of gone slots k = option_and_then (there_at slots) (index_of gone k)

-- what these slots show behind the first `gone` messages, of which none can be given
abbrev pub shown_behind : ℕ → List (Option Place) → Shown
shown_behind gone slots = record {
  count = gone + length slots;
  there = λ k. option_map (λ (p : Place). p.posted) (slot_of gone slots k);
  waits = λ k. option_map_or (λ (p : Place). p.waits) (slot_of gone slots k) false;
}

-- the slots have what was posted: each that is left lies under its number
pub record AreOf (posted : List Posted) (gone : ℕ) (slots : List (Option Place)) : Type 0 where
  pub count : length posted ≡ gone + length slots
  pub each : (k : ℕ) (p : Place) → slot_of gone slots k ≡ Some p → numbered posted k ≡ Some p.posted

-- the first slot that waits, counted from 0, or the number of slots where none does
pub record IsFirstSlot (slots : List (Option Place)) (first : ℕ) : Type 0 where
  pub within : first ≤ length slots
  pub passed : (i : ℕ) (p : Place) → i < first → there_at slots i ≡ Some p → p.waits ≡ false
  pub waits : first < length slots → option_map_or (λ (p : Place). p.waits) (there_at slots first) false ≡ true

-- the same, where the slot with an index waits no more, and may have been the first that did
pub record IsFirstBut (slots : List (Option Place)) (first index : ℕ) : Type 0 where
  pub within : first ≤ length slots
  pub passed : (i : ℕ) (p : Place) → i < first → there_at slots i ≡ Some p → p.waits ≡ false
  pub waits : first ≢ index → first < length slots → option_map_or (λ (p : Place). p.waits) (there_at slots first) false ≡ true

-- the slot with an index changes to this
unfoldable pub changed_at : List (Option Place) → ℕ → Option Place → List (Option Place)
changed_at [] i slot = []
changed_at (s ∷ slots) zero slot = slot ∷ slots
changed_at (s ∷ slots) (suc i) slot = s ∷ changed_at slots i slot
