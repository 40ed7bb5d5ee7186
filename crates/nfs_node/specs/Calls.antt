-- What the calls of a node do.
use Rattle.std.specs.Prelude.{◌≡◌, ℕ, Bool, false, List}
use Rattle.node_rules.specs.declared.node_state.NodeState.{NodeState}
use Rattle.node_rules.specs.declared.output.Output.{Output}

-- a node, and whether memory ran out in a call: then it answers no further one
pub record Machine : Type 0 where
  pub number : ℕ
  pub state : NodeState
  pub is_spent : Bool

-- a call that does this, and gives these
pub record Makes (Does : NodeState → NodeState → List Output → Type 0) (old new : Machine) (outputs : List Output) : Type 0 where
  -- memory had not run out before
  pub live : old.is_spent ≡ false
  pub does : Does old.state new.state outputs
  pub still : new.is_spent ≡ false
  pub number : new.number ≡ old.number
