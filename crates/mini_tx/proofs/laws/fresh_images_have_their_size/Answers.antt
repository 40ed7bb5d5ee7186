use Rattle.mini_tx.proofs.FreshLemmas.{length-fresh_image}
use Rattle.mini_tx.proofs.laws.fresh_images_have_their_size.Goals as goal

pub returns : goal.returns
returns c = length-fresh_image
