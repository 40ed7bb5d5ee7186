use Rattle.tx_actors.proofs.LawLemmas.{begun_is_below}
use Rattle.tx_actors.proofs.laws.begun_is_below.Goals as goal

pub returns : goal.returns
returns c = begun_is_below
