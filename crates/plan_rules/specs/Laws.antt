-- How orders go on.
use Rattle.std.specs.Prelude.{◌≡◌, ℕ, true, List, ◌++◌, All, Some, None}
use Rattle.node_cache.specs.declared.held.Held.{Held}
use Rattle.node_cache.specs.declared.want.Want.{Want}
use Rattle.plan_rules.specs.declared.look.Look.{Look}
use Rattle.plan_rules.specs.Steps.{Step, part_of, is_held, wanted_in, looks_in, refusal_in}

-- an order is gone through up to its end: no part is wanted, and no check fails
pub record IsPassed (held : Held) (steps : List Step) : Type 0 where
  pub held_all : wanted_in held steps ≡ None
  pub passes : refusal_in steps ≡ None

-- two orders come to the same
pub record GoAlike (held : Held) (steps others : List Step) (before : List Look) : Type 0 where
  pub wanted : wanted_in held steps ≡ wanted_in held others
  pub looks : looks_in steps ≡ before ++ looks_in others
  pub refusal : refusal_in steps ≡ refusal_in others

-- behind steps that are passed an order is what follows; a part that they want is wanted, and a check of them that fails ends it
pub record OrdersGoOn : Type 0 where
  pub passed : (held : Held) (front rest : List Step) → IsPassed held front → GoAlike held (front ++ rest) rest (looks_in front)
  pub lacks : (held : Held) (front rest : List Step) (w : Want) → wanted_in held front ≡ Some w → wanted_in held (front ++ rest) ≡ Some w
  pub refused : (held : Held) (front rest : List Step) (status : ℕ) → wanted_in held front ≡ None → refusal_in front ≡ Some status
      → (wanted_in held (front ++ rest) ≡ None) × (looks_in (front ++ rest) ≡ looks_in front) × (refusal_in (front ++ rest) ≡ Some status)

-- what was looked at where no part is wanted is held
abbrev pub AllLookedAtIsHeld : Type 0
AllLookedAtIsHeld = (held : Held) (steps : List Step) → wanted_in held steps ≡ None → All (λ l. is_held held (part_of l) ≡ true) (looks_in steps)
