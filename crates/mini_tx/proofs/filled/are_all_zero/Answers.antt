use Rattle.mini_tx.specs.EntryLemmas.{zeros_told}
use Rattle.mini_tx.proofs.filled.are_all_zero.Goals as goal

pub returns : goal.returns
returns c = zeros_told c.is_zero_throughout.result c.args.bytes.now c.is_zero_throughout.ensures
