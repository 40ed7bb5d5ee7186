use Rattle.tx_cuts.proofs.LawLemmas.{cut_runs_are_runs}
use Rattle.tx_cuts.proofs.laws.cut_runs_are_runs.Goals as goal

pub returns : goal.returns
returns c = cut_runs_are_runs
