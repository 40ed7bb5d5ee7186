use Rattle.tx_actors.proofs.LookLemmas.{looks_have_their_input}
use Rattle.tx_actors.proofs.laws.looks_have_their_input.Goals as goal

pub returns : goal.returns
returns c = looks_have_their_input
