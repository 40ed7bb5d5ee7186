use Rattle.tx_actors.proofs.PointLemmas.{one_point_an_input}
use Rattle.tx_actors.proofs.laws.one_point_an_input.Goals as goal

pub returns : goal.returns
returns c = one_point_an_input
