use Rattle.tx_cuts.proofs.SoundnessLemmas.{sound_opens}
use Rattle.tx_cuts.proofs.laws.sound_opens.Goals as goal

pub returns : goal.returns
returns c = sound_opens
