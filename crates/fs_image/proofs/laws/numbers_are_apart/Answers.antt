use Rattle.fs_image.proofs.RegionLemmas.{numbers_are_apart}
use Rattle.fs_image.proofs.laws.numbers_are_apart.Goals as goal

pub returns : goal.returns
returns c = numbers_are_apart
