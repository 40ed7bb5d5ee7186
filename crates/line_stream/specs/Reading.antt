-- Where reading a text line by line stands.
use Rattle.std.specs.Prelude.{ℕ, List}

-- the line that was found last, and the bytes that were read and stand behind it
pub record Reading : Type 0 where
  pub line : List ℕ
  pub pending : List ℕ
