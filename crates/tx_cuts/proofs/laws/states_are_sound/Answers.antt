use Rattle.tx_cuts.proofs.StopLemmas.{states_are_sound}
use Rattle.tx_cuts.proofs.laws.states_are_sound.Goals as goal

pub returns : goal.returns
returns c = states_are_sound
