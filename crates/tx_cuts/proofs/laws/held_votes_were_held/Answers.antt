use Rattle.tx_cuts.proofs.LawLemmas.{held_votes_were_held}
use Rattle.tx_cuts.proofs.laws.held_votes_were_held.Goals as goal

pub returns : goal.returns
returns c = held_votes_were_held
