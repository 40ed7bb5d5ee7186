use Rattle.fs_image.proofs.RegionLemmas.{writes_stay_apart}
use Rattle.fs_image.proofs.laws.writes_stay_apart.Goals as goal

pub returns : goal.returns
returns c = writes_stay_apart
