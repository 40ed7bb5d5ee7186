use Rattle.image_puts.proofs.PutLemmas.{puts_are_put}
use Rattle.image_puts.proofs.laws.puts_are_put.Goals as goal

pub returns : goal.returns
returns c = puts_are_put
