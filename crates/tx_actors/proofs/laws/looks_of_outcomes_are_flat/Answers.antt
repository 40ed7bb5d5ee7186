use Rattle.tx_actors.proofs.LawLemmas.{looks_of_outcomes_are_flat}
use Rattle.tx_actors.proofs.laws.looks_of_outcomes_are_flat.Goals as goal

pub returns : goal.returns
returns c = looks_of_outcomes_are_flat
