use Rattle.tx_cuts.proofs.SoundnessLemmas.{crash_images_are_sound}
use Rattle.tx_cuts.proofs.laws.crash_images_are_sound.Goals as goal

pub returns : goal.returns
returns c = crash_images_are_sound
