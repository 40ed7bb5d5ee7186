use Rattle.nfs_service.proofs.HearingLemmas.{ten_cases_decide}
use Rattle.nfs_service.proofs.laws.the_ten_cases_decide.Goals as goal

pub returns : goal.returns
returns c = ten_cases_decide
