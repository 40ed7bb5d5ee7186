-- That what the code does is what the rules say.
use Rattle.std.specs.Prelude.{◌≡◌, ◌≢◌, ℕ, Option, option_and_then, IfSome, IfNone, Result, Ok, Err}
use Rattle.fs_rules.specs.declared.plain_tree.PlainTree.{PlainTree}
use Rattle.fs_rules.specs.Respond.{Responded}
use Rattle.fs_decisions.specs.Steps.{refused}
use Rattle.fs_tree.specs.declared.response.Response.{Response}
use Rattle.fs_tree.specs.declared.stop.Stop.{Stop}
use Rattle.fs_tree.specs.declared.stop.Stop.TheVariants as stop

-- a call was answered by the rules, and left their tree; that it changed the tree is told exactly where it did, with the file
-- that it made
pub record Meets (old : PlainTree) (r : Responded) (new : PlainTree) (response : Response) : Type 0 where
  pub answer : response.answer ≡ r.answer
  pub tree : new ≡ r.tree
  pub changed : IfSome response.change (λ change. (new ≢ old) × (change.made ≡ r.made))
  pub unchanged : IfNone response.change (new ≡ old)

-- how a procedure ends: what it answers meets the rules, a refusal is theirs, and of want of memory nothing is said
abbrev pub Ends : PlainTree → Responded → PlainTree → Result Response Stop → Type 0
Ends old r new (Ok response) = Meets old r new response
Ends old r new (Err (stop.Refused status)) = r ≡ refused old status.0
Ends old r new (Err stop.NoMemory) = Unit {0}

-- the number and the generation of the file that a call made
abbrev pub made_by : Response → Option (ℕ × ℕ)
made_by response = option_and_then (λ change. change.made) response.change
