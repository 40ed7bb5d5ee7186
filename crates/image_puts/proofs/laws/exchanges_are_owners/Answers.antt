use Rattle.image_puts.proofs.TakeLemmas.{exchanges_are_owners}
use Rattle.image_puts.proofs.laws.exchanges_are_owners.Goals as goal

pub returns : goal.returns
returns c = exchanges_are_owners
