use Rattle.fs_image.proofs.OwnerLemmas.{taken_inverse}
use Rattle.fs_image.proofs.laws.taken_is_inverse.Goals as goal

pub returns : goal.returns
returns c = taken_inverse
