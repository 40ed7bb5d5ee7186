-- What a coordinator of minitransactions has.
use Rattle.std.specs.Prelude.{ℕ, Bool, List, [], Option, Some, None}
use Rattle.tx_coord.specs.declared.finishing.Finishing.{Finishing}
use Rattle.tx_coord.specs.declared.outcome.Outcome.{Outcome}
use Rattle.tx_coord.specs.declared.running.Running.{Running}
use Rattle.tx_coord.specs.declared.tx_state.TxState.{TxState}
use Rattle.tx_coord.specs.declared.tx_state.TxState.TheVariants as state

-- what it is at: nothing, a minitransaction, or one that ended
pub data Phase : Type 0 where
  Free : Phase
  Runs : Running → Phase
  Ended : Outcome → Phase

-- the coordinator of this number, since its start with this boot number: how many minitransactions it began since, what
-- it is at, and what is finishing, oldest first
pub record State : Type 0 where
  pub coord : ℕ
  pub boot : ℕ
  pub begun : ℕ
  pub phase : Phase
  pub finishing : List Finishing

-- at its start
abbrev pub started : ℕ → ℕ → State
started coord boot = record { coord = coord; boot = boot; begun = 0; phase = Free; finishing = [] }

-- what it tells of itself
abbrev pub shown : Phase → TxState
shown Free = state.Idle
shown (Runs r) = state.Running r.id
shown (Ended outcome) = state.Done outcome

-- what it is at, by what runs and what it tells
abbrev pub phase_of : Option Running → TxState → Phase
phase_of (Some r) told = Runs r
phase_of None state.Idle = Free
phase_of None (state.Running id) = Free
phase_of None (state.Done outcome) = Ended outcome

-- a coordinator that runs, and whether memory ran out in a call: then it answers no further one
pub record Machine : Type 0 where
  pub state : State
  pub is_spent : Bool
