use Rattle.mem_laws.proofs.AlikeLemmas.{others_leave_it}
use Rattle.mem_laws.proofs.laws.others_leave_it.Goals as goal

pub returns : goal.returns
returns c = others_leave_it
