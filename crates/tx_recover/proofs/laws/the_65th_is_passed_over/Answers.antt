use Rattle.tx_recover.proofs.CaseLemmas.{the_65th_is_passed_over}
use Rattle.tx_recover.proofs.laws.the_65th_is_passed_over.Goals as goal

pub returns : goal.returns
returns c = the_65th_is_passed_over
