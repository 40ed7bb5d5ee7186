use Rattle.tx_rules.proofs.LawLemmas.{open_points_trade}
use Rattle.tx_rules.proofs.laws.open_points_trade.Goals as goal

pub returns : goal.returns
returns c = open_points_trade
