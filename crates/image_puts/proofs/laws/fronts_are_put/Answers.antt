use Rattle.image_puts.proofs.MapLemmas.{fronts_are_put}
use Rattle.image_puts.proofs.laws.fronts_are_put.Goals as goal

pub returns : goal.returns
returns c = fronts_are_put
