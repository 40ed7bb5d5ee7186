use Rattle.tx_cuts.proofs.CrashLemmas.{crash_images_are_reached}
use Rattle.tx_cuts.proofs.laws.crash_images_are_reached.Goals as goal

pub returns : goal.returns
returns c = crash_images_are_reached
