-- The chaining blocks of a file of which bytes are read.
use Rattle.std.specs.Prelude.{ℕ, Bool, if◌then◌else◌, List, []}
use Rattle.node_cache.specs.declared.held.Held.{Held}
use Rattle.plan_rules.specs.Blocks.{chain_steps}
use Rattle.plan_rules.specs.Steps.{Step}

-- all of them are looked at, if any byte is read
abbrev pub chains_where : Held → ℕ → Bool → List Step
chains_where held n some = if some then chain_steps held n else []
