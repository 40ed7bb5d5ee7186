use Rattle.mem_laws.proofs.LeaveLemmas.{decisions_leave}
use Rattle.mem_laws.proofs.laws.decisions_leave_the_same.Goals as goal

pub returns : goal.returns
returns c = decisions_leave
