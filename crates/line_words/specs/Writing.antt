-- Words that are to be written.
use Rattle.std.specs.Prelude.{ℕ, ◌≤◌, ◌==◌, if◌then◌else◌, List, [], ◌∷◌, length, decimal}
use Rattle.hex.specs.Hex.{encode_lower}
use Rattle.line_words.specs.Words.{space}
use Rattle.line_words.specs.declared.word.Word.{Word}
use Rattle.line_words.specs.declared.word.Word.TheVariants.{Name, Number, Mark, Hex}
use Rattle.line_words.specs.declared.limits.TheConstants.{MAX_DATAGRAM_BYTES}

-- the bytes of a word
abbrev pub text_of : Word → List ℕ
text_of (Name text) = text.now
text_of (Number n) = decimal n
text_of (Mark letter n) = letter ∷ decimal n
text_of (Hex bytes) = encode_lower bytes.now

-- the bytes that a word spells are no more than those of a datagram
abbrev pub IsShort : Word → Type 0
IsShort (Name text) = Unit {0}
IsShort (Number n) = Unit {0}
IsShort (Mark letter n) = Unit {0}
IsShort (Hex bytes) = length bytes.now ≤ MAX_DATAGRAM_BYTES

-- what stands before the word at index i
abbrev pub separator_before : ℕ → List ℕ
separator_before i = if i == 0 then [] else space ∷ []
