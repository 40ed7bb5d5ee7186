-- How XDR spells its items (RFC 1014, section 3).
use Rattle.std.specs.Prelude.{◌≡◌, ℕ, ◌-◌, ◌%◌, ◌^◌, ◌<◌, Bool, true, false, List, ◌++◌, length, replicate}
use Rattle.std.specs.List.{flat_map, AllByRecursion}
use Rattle.std.specs.Int.{w32, to_be_bytes}

-- a number below 2^32: four bytes, the highest first
abbrev pub word : ℕ → List ℕ
word n = to_be_bytes w32 n

-- every number is below 2^32
abbrev pub AreWords : List ℕ → Type 0
AreWords numbers = AllByRecursion (λ n. n < 2 ^ 32) numbers

-- numbers, one behind the other
abbrev pub words : List ℕ → List ℕ
words numbers = flat_map word numbers

-- a boolean: the number 0 or 1
abbrev pub boolean : Bool → List ℕ
boolean false = word 0
boolean true = word 1

-- how many bytes fill n bytes up to a multiple of four
abbrev pub padding_of : ℕ → ℕ
padding_of n = (4 - n % 4) % 4

-- bytes of a length that both sides know, as a writer spells them: zeros fill them up
abbrev pub opaque : List ℕ → List ℕ
opaque bytes = bytes ++ replicate (padding_of (length bytes)) 0

-- bytes with their length before them, as a writer spells them
abbrev pub opaque_var : List ℕ → List ℕ
opaque_var bytes = word (length bytes) ++ opaque bytes

-- bytes of a known length as a reader takes them: any bytes fill them up
pub record IsOpaque (bytes item : List ℕ) : Type 0 where
  pub padding : List ℕ
  pub filled : length padding ≡ padding_of (length bytes)
  pub spelled : item ≡ bytes ++ padding

-- bytes with their length before them, as a reader takes them
pub record IsOpaqueVar (bytes item : List ℕ) : Type 0 where
  pub body : List ℕ
  pub opaque : IsOpaque bytes body
  pub spelled : item ≡ word (length bytes) ++ body
