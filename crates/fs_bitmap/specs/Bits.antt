-- The bits of a map.
use Rattle.std.specs.Prelude.{◌≡◌, ℕ, zero, suc, ◌+◌, ◌/◌, ◌%◌, ◌^◌, ◌<◌, Bool, true, false, not, ◌==◌, List, slice_index, bit_and, if◌then◌else◌}

-- whether a byte has the k-th bit, from the highest
unfoldable pub has_bit : ℕ → ℕ → Bool
has_bit byte k = not (bit_and byte (128 / 2 ^ k) == 0)

-- whether a bit of a map is 1: it is used
abbrev pub is_used : List ℕ → ℕ → Bool
is_used map bit = has_bit (slice_index map (bit / 8)) (bit % 8)

-- the bit is the first of these that is free
pub record IsLowestFree (map : List ℕ) (bits bit : ℕ) : Type 0 where
  pub within : bit < bits
  pub free : is_used map bit ≡ false
  pub before : (k : ℕ) → k < bit → is_used map k ≡ true

-- none of the first bits is free
abbrev pub IsNoneFree : List ℕ → ℕ → Type 0
IsNoneFree map bits = (k : ℕ) → k < bits → is_used map k ≡ true

-- how many of the first bits of a byte are free
unfoldable pub free_in_byte : ℕ → ℕ → ℕ
free_in_byte byte zero = 0
free_in_byte byte (suc k) = free_in_byte byte k + (if has_bit byte k then 0 else 1)

-- how many of the first bits of a map are free
unfoldable pub free_below : List ℕ → ℕ → ℕ
free_below map zero = 0
free_below map (suc bit) = free_below map bit + (if is_used map bit then 0 else 1)
