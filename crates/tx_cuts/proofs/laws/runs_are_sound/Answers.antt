use Rattle.tx_cuts.proofs.SoundnessLemmas.{runs_are_sound}
use Rattle.tx_cuts.proofs.laws.runs_are_sound.Goals as goal

pub returns : goal.returns
returns c = runs_are_sound
