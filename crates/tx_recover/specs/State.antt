-- What the recoverer has.
use Rattle.std.specs.Prelude.{Bool, List}
use Rattle.tx_recover.specs.declared.work.Work.{Work}

-- the identifiers at work, and whether memory ran out in a call: then it answers no further one
pub record Machine : Type 0 where
  pub works : List Work
  pub is_spent : Bool
