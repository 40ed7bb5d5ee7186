use Rattle.mem_laws.proofs.LeaveLemmas.{answers_leave}
use Rattle.mem_laws.proofs.laws.answers_leave_the_same.Goals as goal

pub returns : goal.returns
returns c = answers_leave
