use Rattle.fs_laws.proofs.FreshLemmas.{fresh_good}
use Rattle.fs_laws.proofs.laws.fresh_is_good.Goals as goal

pub returns : goal.returns
returns c = fresh_good
