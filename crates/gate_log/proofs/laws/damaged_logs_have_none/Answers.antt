use Rattle.gate_log.proofs.LawLemmas.{logs_damaged}
use Rattle.gate_log.proofs.laws.damaged_logs_have_none.Goals as goal

pub returns : goal.returns
returns c = logs_damaged
