use Rattle.kept_laws.proofs.KeptLemmas.{kept_is_true}
use Rattle.kept_laws.proofs.laws.kept_is_true.Goals as goal

pub returns : goal.returns
returns c = kept_is_true
