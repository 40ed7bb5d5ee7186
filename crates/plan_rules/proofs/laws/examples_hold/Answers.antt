use Rattle.plan_rules.proofs.ExampleLemmas.{examples_hold}
use Rattle.plan_rules.proofs.laws.examples_hold.Goals as goal

pub returns : goal.returns
returns c = examples_hold
