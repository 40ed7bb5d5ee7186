use Rattle.fs_image.proofs.RecordLemmas.{slots_found}
use Rattle.fs_image.proofs.laws.slots_are_found_alike.Goals as goal

pub returns : goal.returns
returns c = slots_found
