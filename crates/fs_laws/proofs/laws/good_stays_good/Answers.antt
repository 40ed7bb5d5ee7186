use Rattle.fs_laws.proofs.GoodLemmas.{good_stays_good}
use Rattle.fs_laws.proofs.laws.good_stays_good.Goals as goal

pub returns : goal.returns
returns c = good_stays_good
