-- What the calls of the recoverer answer.
use Rattle.std.specs.Prelude.{◌≡◌, false, List}
use Rattle.tx_coord.specs.declared.outgoing.Outgoing.{Outgoing}
use Rattle.tx_recover.specs.State.{Machine}
use Rattle.tx_recover.specs.Rules.{Step}

-- a call that makes this step, and posts this
pub record Makes (step : Step) (old new : Machine) (box : List Outgoing) : Type 0 where
  -- memory had not run out before
  pub live : old.is_spent ≡ false
  pub posts : box ≡ step.posts
  pub now : new ≡ record { works = step.now; is_spent = false }
