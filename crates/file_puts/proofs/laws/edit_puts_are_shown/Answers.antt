use Rattle.file_puts.proofs.FileLemmas.{edit_puts_are_shown}
use Rattle.file_puts.proofs.laws.edit_puts_are_shown.Goals as goal

pub returns : goal.returns
returns c = edit_puts_are_shown c.puts_are_only.ensures
