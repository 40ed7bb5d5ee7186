use Rattle.mem_laws.proofs.RuleLemmas.{rule_is}
use Rattle.mem_laws.proofs.laws.rules_are_the_machines.Goals as goal

pub returns : goal.returns
returns c = rule_is
