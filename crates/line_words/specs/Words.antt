-- The words of a line, and what one word spells.
use Rattle.std.specs.Prelude.{ℕ, ◌*◌, ◌^◌, ◌<◌, ◌≤◌, ◌==◌, nat_le, nat_lt, Bool, false, ◌&&◌, ◌||◌, not, if◌then◌else◌, List, [], ◌∷◌, length, Option, Some, None}
use Rattle.std.specs.Borrow.{Bor}
use Rattle.std.specs.Char.{is_ascii_digit}
use Rattle.std.specs.List.{slice_split, join_with_byte, list_all}
use Rattle.std.specs.Result.{result_ok}
use Rattle.std.specs.Str.{all_ascii_digits}
use Rattle.std.specs.Str.Parse.{digits_value}
use Rattle.sfs_base.specs.Reading.{IsBytes}
use Rattle.hex.specs.Hex.{decode_of}
use Rattle.line_words.specs.declared.limits.TheConstants.{MAX_DATAGRAM_BYTES}

-- the byte between two words
abbrev pub space : ℕ
space = 32

-- the words of a line: the parts before, between and after its spaces
abbrev pub words_of : List ℕ → List (List ℕ)
words_of text = slice_split (λ byte. byte == space) text

-- the line of these words, with one space between two
abbrev pub text_of_words : List (List ℕ) → List ℕ
text_of_words words = join_with_byte space words

-- a zero stands before another byte
abbrev pub has_leading_zero : List ℕ → Bool
has_leading_zero [] = false
has_leading_zero (digit ∷ []) = false
has_leading_zero (digit ∷ next ∷ more) = digit == 48

-- decimal digits, at least one, and no zero before another
abbrev pub is_numeral : List ℕ → Bool
is_numeral word = nat_lt 0 (length word) && all_ascii_digits word && not (has_leading_zero word)

-- the number below 2 ^ bits that the word spells
abbrev pub number_of : ℕ → List ℕ → Option ℕ
number_of bits word =
    if is_numeral word && nat_lt (digits_value 10 word) (2 ^ bits) then Some (digits_value 10 word) else None

-- a hexadecimal digit, in lower case
abbrev pub is_lower_hex_digit : ℕ → Bool
is_lower_hex_digit c = is_ascii_digit c || (nat_le 97 c && nat_le c 102)

-- the bytes of a datagram, 1 to 65,535 of them, that the word spells by two digits each
abbrev pub bytes_of : List ℕ → Option (List ℕ)
bytes_of word =
    if nat_le 2 (length word) && nat_le (length word) (2 * MAX_DATAGRAM_BYTES) && list_all is_lower_hex_digit word
    then result_ok (decode_of word)
    else None

-- as many bytes as a datagram has: 1 to 65,535
pub record HasDatagramLength (bytes : List ℕ) : Type 0 where
  pub some : 0 < length bytes
  pub within : length bytes ≤ MAX_DATAGRAM_BYTES

-- the bytes of a datagram
pub record IsDatagram (bytes : List ℕ) : Type 0 where
  pub size : HasDatagramLength bytes
  pub each : IsBytes bytes

-- the words that are left: none, or those of the rest of the line
abbrev pub words_left : Option (Bor (List ℕ)) → List (List ℕ)
words_left None = []
words_left (Some rest) = words_of rest.now
