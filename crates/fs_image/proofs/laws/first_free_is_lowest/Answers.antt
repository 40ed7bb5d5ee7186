use Rattle.fs_image.proofs.FirstFreeLemmas.{first_free_is_lowest}
use Rattle.fs_image.proofs.laws.first_free_is_lowest.Goals as goal

pub returns : goal.returns
returns c = first_free_is_lowest
