use Rattle.recover_laws.proofs.KeptLemmas.{kept_is_the_managers}
use Rattle.recover_laws.proofs.laws.kept_is_the_managers.Goals as goal

pub returns : goal.returns
returns c = kept_is_the_managers
