use Rattle.tx_actors.proofs.LawLemmas.{live_are_named_by_all}
use Rattle.tx_actors.proofs.laws.live_are_named_by_all.Goals as goal

pub returns : goal.returns
returns c = live_are_named_by_all
