use Rattle.recover_laws.proofs.DoneLemmas.{done_is_the_managers}
use Rattle.recover_laws.proofs.laws.done_is_the_managers.Goals as goal

pub returns : goal.returns
returns c = done_is_the_managers
