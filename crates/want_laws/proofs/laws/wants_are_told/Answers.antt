use Rattle.want_laws.proofs.OrderLemmas.{wants_are_told}
use Rattle.want_laws.proofs.laws.wants_are_told.Goals as goal

pub returns : goal.returns
returns c = wants_are_told
