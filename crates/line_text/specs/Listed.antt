-- The lines of a listing: whether words are those of one, read word by word from the left.
use Rattle.std.specs.Prelude.{ℕ, ◌*◌, ◌==◌, ◌%◌, nat_le, Bool, true, ◌&&◌, if◌then◌else◌, List, [], ◌∷◌, length, codes, Option, Some, None}
use Rattle.std.specs.List.{list_all}
use Rattle.std.specs.Str.{bytes_eq}
use Rattle.line_words.specs.Words.{is_lower_hex_digit}
use Rattle.line_words.specs.Reading.{◌>>=◌, number_at, at_end}

-- an octal digit
abbrev pub is_octal_digit : ℕ → Bool
is_octal_digit c = nat_le 48 c && nat_le c 55

-- a mode: four octal digits
abbrev pub is_mode : List ℕ → Bool
is_mode word = (length word == 4) && list_all is_octal_digit word

-- the kind of a file
abbrev pub is_kind : List ℕ → Bool
is_kind word = if bytes_eq word (codes "reg") then true else if bytes_eq word (codes "dir") then true else bytes_eq word (codes "lnk")

-- so many bytes, of two digits each: at least the first number, and at most the second
abbrev pub is_hex : ℕ → ℕ → List ℕ → Bool
is_hex least most word = nat_le (2 * least) (length word) && nat_le (length word) (2 * most) && (length word % 2 == 0) && list_all is_lower_hex_digit word

-- the words after the first, where that passes a test
abbrev pub passing : (List ℕ → Bool) → List (List ℕ) → Option (List (List ℕ))
passing test [] = None
passing test (word ∷ rest) = if test word then Some rest else None

-- the times of a file: seconds and microseconds of three
unfoldable pub times_of : List (List ℕ) → Option (Unit {0})
times_of words = do
  asec ← number_at 32 words
  ausec ← number_at 32 asec.1
  msec ← number_at 32 ausec.1
  musec ← number_at 32 msec.1
  csec ← number_at 32 musec.1
  cusec ← number_at 32 csec.1
  at_end tt cusec.1

-- a file, by the words after its name
unfoldable pub file_of : List (List ℕ) → Option (Unit {0})
file_of words = do
  number ← number_at 32 words
  generation ← number_at 32 number.1
  kind ← passing is_kind generation.1
  mode ← passing is_mode kind
  links ← number_at 32 mode
  uid ← number_at 32 links.1
  gid ← number_at 32 uid.1
  size ← number_at 32 gid.1
  change ← number_at 64 size.1
  times_of change.1

-- a name of a directory, of 1 to 255 bytes
unfoldable pub name_of : List (List ℕ) → Option (Unit {0})
name_of words = do
  directory ← number_at 32 words
  slot ← number_at 32 directory.1
  bytes ← passing (is_hex 1 255) slot.1
  number ← number_at 32 bytes
  at_end tt number.1

-- a block of a file, of 4,096 bytes
unfoldable pub data_of : List (List ℕ) → Option (Unit {0})
data_of words = do
  file ← number_at 32 words
  index ← number_at 32 file.1
  bytes ← passing (is_hex 4096 4096) index.1
  at_end tt bytes

-- a line of a listing
unfoldable pub listed_of : List (List ℕ) → Option (Unit {0})
listed_of [] = None
listed_of (name ∷ words) =
    if bytes_eq name (codes "file") then file_of words
    else if bytes_eq name (codes "name") then name_of words
    else if bytes_eq name (codes "data") then data_of words
    else None
