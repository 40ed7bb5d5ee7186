-- What a program reads from and writes to, where that is told.
use Rattle.std.specs.Prelude.{◌≡◌, ℕ, List, [], ◌++◌, Option, Some}

-- where what is left was told, these bytes were the first of it, and the rest is told
pub record Takes (before now : Option (List ℕ)) (piece : List ℕ) : Type 0 where
  pub told : (bytes : List ℕ) → before ≡ Some bytes → (rest : List ℕ) × (now ≡ Some rest) × (bytes ≡ piece ++ rest)

-- where what is left is told, nothing is left
abbrev pub IsAtEnd : Option (List ℕ) → Type 0
IsAtEnd left = (bytes : List ℕ) → left ≡ Some bytes → bytes ≡ []

-- where what is held was told, it is told again, with these bytes at its end
pub record Puts (before now : Option (List ℕ)) (piece : List ℕ) : Type 0 where
  pub told : (bytes : List ℕ) → before ≡ Some bytes → now ≡ Some (bytes ++ piece)
