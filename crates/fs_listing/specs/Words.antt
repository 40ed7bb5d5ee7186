-- The words of a line that is to be written.
use Rattle.std.specs.Prelude.{ℕ, List, decimal}
use Rattle.hex.specs.Hex.{encode_lower}
use Rattle.fs_listing.specs.declared.word.Word.{Word}
use Rattle.fs_listing.specs.declared.word.Word.TheVariants.{Text, Number, Mode, Hex}
use Rattle.fs_listing.specs.Listing.{mode_word}

-- the bytes of a word
abbrev pub text_of : Word → List ℕ
text_of (Text text) = text.now
text_of (Number n) = decimal n
text_of (Mode mode) = mode_word mode
text_of (Hex bytes) = encode_lower bytes.now
