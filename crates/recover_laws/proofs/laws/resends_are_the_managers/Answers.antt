use Rattle.recover_laws.proofs.DoneLemmas.{resends_are_the_managers}
use Rattle.recover_laws.proofs.laws.resends_are_the_managers.Goals as goal

pub returns : goal.returns
returns c = resends_are_the_managers
