-- What is kept of the votes on a minitransaction.
use Rattle.std.specs.Prelude.{ℕ, List}

-- a Granted vote that was counted: whose, and the bytes of its read items, in order
pub record Granted : Type 0 where
  pub memory : ℕ
  pub reads : List (List ℕ)
