use Rattle.mem_laws.proofs.ListLemmas.{lists_are_the_machines}
use Rattle.mem_laws.proofs.laws.lists_are_the_machines.Goals as goal

pub returns : goal.returns
returns c = lists_are_the_machines
