-- All bytes of a source.
use Rattle.std.specs.Prelude.{◌≡◌, ℕ, List, Option, Some}

-- where what is left is told, it has this property
abbrev pub OfText : Option (List ℕ) → (List ℕ → Type 0) → Type 0
OfText left P = (text : List ℕ) → left ≡ Some text → P text
