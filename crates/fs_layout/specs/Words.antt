-- A record is a list of words: numbers below 2 ^ 32, of four bytes each.
use Rattle.std.specs.Prelude.{ℕ, ◌^◌, ◌<◌, List, [], ◌∷◌, ◌++◌, slice_index}
use Rattle.std.specs.Int.{w32, to_be_bytes}

-- every element is a word
abbrev pub AreWords : List ℕ → Type 0
AreWords words = (i : ℕ) → slice_index words i < 2 ^ 32

-- the bytes of words, one word behind the other, of each the highest byte first
unfoldable pub spelled : List ℕ → List ℕ
spelled [] = []
spelled (word ∷ words) = to_be_bytes w32 word ++ spelled words
