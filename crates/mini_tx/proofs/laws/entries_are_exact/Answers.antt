use Rattle.mini_tx.specs.EntryLaws.{entries_exact}
use Rattle.mini_tx.proofs.laws.entries_are_exact.Goals as goal

pub returns : goal.returns
returns c = entries_exact
