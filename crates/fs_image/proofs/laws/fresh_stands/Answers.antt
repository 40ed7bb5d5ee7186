use Rattle.fs_image.proofs.FreshLemmas.{fresh_stands}
use Rattle.fs_image.proofs.laws.fresh_stands.Goals as goal

pub returns : goal.returns
returns c = fresh_stands
