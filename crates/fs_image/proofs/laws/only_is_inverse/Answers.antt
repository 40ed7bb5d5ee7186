use Rattle.fs_image.proofs.OwnerLemmas.{only_inverse}
use Rattle.fs_image.proofs.laws.only_is_inverse.Goals as goal

pub returns : goal.returns
returns c = only_inverse
