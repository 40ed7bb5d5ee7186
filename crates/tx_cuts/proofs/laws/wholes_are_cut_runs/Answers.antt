use Rattle.tx_cuts.proofs.WholeLemmas.{wholes_are_cut_runs}
use Rattle.tx_cuts.proofs.laws.wholes_are_cut_runs.Goals as goal

pub returns : goal.returns
returns c = wholes_are_cut_runs
