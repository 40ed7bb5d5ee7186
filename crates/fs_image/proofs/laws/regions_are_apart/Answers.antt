use Rattle.fs_image.proofs.RegionLemmas.{regions_are_apart}
use Rattle.fs_image.proofs.laws.regions_are_apart.Goals as goal

pub returns : goal.returns
returns c = regions_are_apart
