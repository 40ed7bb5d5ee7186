use Rattle.tx_cuts.proofs.StopLemmas.{crashed_states_are_sound}
use Rattle.tx_cuts.proofs.laws.crashed_states_are_sound.Goals as goal

pub returns : goal.returns
returns c = crashed_states_are_sound
