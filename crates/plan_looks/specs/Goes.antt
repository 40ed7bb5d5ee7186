-- How code that goes through steps ends.
use Rattle.std.specs.Prelude.{◌≡◌, ℕ, List, ◌++◌, Some, None, Result, Ok, Err}
use Rattle.node_cache.specs.declared.held.Held.{Held}
use Rattle.plan_rules.specs.declared.look.Look.{Look}
use Rattle.plan_rules.specs.Steps.{Step, wanted_in, looks_in, refusal_in}
use Rattle.plan_looks.specs.declared.stop.Stop.{Stop}
use Rattle.plan_looks.specs.declared.stop.Stop.TheVariants.{Need, Refused, NoMemory}

-- the steps are passed: no part is wanted and no check fails, and what they look at is noted
pub record GoesOn (held : Held) (steps : List Step) (old new : List Look) : Type 0 where
  pub wanted : wanted_in held steps ≡ None
  pub passes : refusal_in steps ≡ None
  pub looks : new ≡ old ++ looks_in steps

-- no part is wanted before a check fails with a status, and what is looked at up to there is noted
pub record IsRefused (held : Held) (steps : List Step) (old new : List Look) (status : ℕ) : Type 0 where
  pub wanted : wanted_in held steps ≡ None
  pub fails : refusal_in steps ≡ Some status
  pub looks : new ≡ old ++ looks_in steps

-- code that goes no further ends as the steps do: it names the part that they want, or is refused as they are
abbrev pub Ends : Held → List Step → List Look → List Look → Stop → Type 0
Ends held steps old new (Need w) = wanted_in held steps ≡ Some w
Ends held steps old new (Refused s) = IsRefused held steps old new s.0
Ends held steps old new NoMemory = Unit {0}

-- code that goes through steps goes on behind them, or ends with them
abbrev pub Goes : {A : Type 0} → Held → List Step → List Look → List Look → Result A Stop → Type 0
Goes held steps old new (Ok x) = GoesOn held steps old new
Goes held steps old new (Err e) = Ends held steps old new e
