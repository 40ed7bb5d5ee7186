-- What a put of the front of a map leaves of its bits.
use Rattle.std.specs.Prelude.{◌≡◌, ℕ, ◌/◌, ◌<◌, ◌≤◌, List, length, take}
use Rattle.fs_bitmap.specs.Bits.{is_used}
use Rattle.mini_tx.specs.FlatMemory.{with_bytes}

-- the map with the first bytes of a page
abbrev pub with_front : List ℕ → ℕ → List ℕ → List ℕ
with_front map n page = with_bytes map 0 (take n page)

-- the bits of these bytes are those of the page, and all others stay
pub record HasBitsOf (map : List ℕ) (n : ℕ) (page : List ℕ) : Type 0 where
  pub front : (bit : ℕ) → bit / 8 < n → is_used (with_front map n page) bit ≡ is_used page bit
  pub rest : (bit : ℕ) → n ≤ bit / 8 → is_used (with_front map n page) bit ≡ is_used map bit

abbrev pub FrontsArePut : Type 0
FrontsArePut = (map : List ℕ) (n : ℕ) (page : List ℕ) → n ≤ length map → n ≤ length page → HasBitsOf map n page
