use Rattle.tx_actors.proofs.LawLemmas.{looks_have_their_moment}
use Rattle.tx_actors.proofs.laws.looks_have_their_moment.Goals as goal

pub returns : goal.returns
returns c = looks_have_their_moment
