use Rattle.mini_tx.proofs.ValidLemmas.{valid_within}
use Rattle.mini_tx.proofs.laws.valid_items_lie_within.Goals as goal

pub returns : goal.returns
returns c = valid_within
