use Rattle.tx_rules.proofs.LawLemmas.{looks_had_their_moment}
use Rattle.tx_rules.proofs.laws.looks_had_their_moment.Goals as goal

pub returns : goal.returns
returns c = looks_had_their_moment
