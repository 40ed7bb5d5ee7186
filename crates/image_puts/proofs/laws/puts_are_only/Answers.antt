use Rattle.image_puts.proofs.OnlyLemmas.{puts_are_only}
use Rattle.image_puts.proofs.laws.puts_are_only.Goals as goal

pub returns : goal.returns
returns c = puts_are_only
