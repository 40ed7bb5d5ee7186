use Rattle.tx_cuts.proofs.CrashLemmas.{records_may_wait}
use Rattle.tx_cuts.proofs.laws.records_may_wait.Goals as goal

pub returns : goal.returns
returns c = records_may_wait
