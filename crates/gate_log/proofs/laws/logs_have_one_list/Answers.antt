use Rattle.gate_log.proofs.LawLemmas.{logs_one}
use Rattle.gate_log.proofs.laws.logs_have_one_list.Goals as goal

pub returns : goal.returns
returns c = logs_one
