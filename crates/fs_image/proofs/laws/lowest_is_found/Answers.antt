use Rattle.fs_image.proofs.FirstFreeLemmas.{lowest_is_found}
use Rattle.fs_image.proofs.laws.lowest_is_found.Goals as goal

pub returns : goal.returns
returns c = lowest_is_found
