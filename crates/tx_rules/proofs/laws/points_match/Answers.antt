use Rattle.tx_rules.proofs.LawLemmas.{points_are_matched}
use Rattle.tx_rules.proofs.laws.points_match.Goals as goal

pub returns : goal.returns
returns c = points_are_matched
