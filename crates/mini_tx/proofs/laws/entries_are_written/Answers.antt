use Rattle.mini_tx.specs.EntryLaws.{entries_written}
use Rattle.mini_tx.proofs.laws.entries_are_written.Goals as goal

pub returns : goal.returns
returns c = entries_written
