-- The messages of a simulated link, in the order of their numbers.
use Rattle.std.specs.Prelude.{◌≡◌, ℕ, zero, suc, ◌<◌, ◌≤◌, Bool, true, false, List, [], ◌∷◌, map, length, slice_get, Option, None, Some, option_map}
use Rattle.std.specs.Option.{option_map_or}
use Rattle.mini_tx.specs.declared.posted.Posted.{Posted}
use Rattle.link_model.specs.declared.place.Place.{Place}
use Rattle.link_model.specs.Links.{Shown}

-- the messages at these places
abbrev pub posted_in : List Place → List Posted
posted_in places = map (λ (p : Place). p.posted) places

-- the place of message k: numbers count from 1
abbrev pub place_of : List Place → ℕ → Option Place
place_of places zero = None
place_of places (suc i) = slice_get places i

-- the message at a place
abbrev pub posted_at : List Place → ℕ → Option Posted
posted_at places k = option_map (λ (p : Place). p.posted) (place_of places k)

-- the message at a place waits
abbrev pub waits_at : List Place → ℕ → Bool
waits_at places k = option_map_or (λ (p : Place). p.waits) (place_of places k) false

-- a place that waits no more
abbrev pub over : Place → Place
over p = record p { waits = false }

-- the place with this index waits no more
unfoldable pub passed_at : List Place → ℕ → List Place
passed_at [] i = []
passed_at (p ∷ places) zero = over p ∷ places
passed_at (p ∷ places) (suc i) = p ∷ passed_at places i

-- message k waits no more
abbrev pub passed : List Place → ℕ → List Place
passed places zero = places
passed places (suc i) = passed_at places i

-- what these places show
abbrev pub shown_by : List Place → Shown
shown_by places = record { count = length places; there = posted_at places; waits = waits_at places }

-- the first place that waits, counted from 0, or the number of places where none does
pub record IsFirst (places : List Place) (first : ℕ) : Type 0 where
  pub within : first ≤ length places
  pub passed : (i : ℕ) (p : Place) → i < first → slice_get places i ≡ Some p → p.waits ≡ false
  pub waits : (p : Place) → slice_get places first ≡ Some p → p.waits ≡ true
