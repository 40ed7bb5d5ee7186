use Rattle.fs_image.proofs.RecordLemmas.{set_counted}
use Rattle.fs_image.proofs.laws.set_bits_are_counted.Goals as goal

pub returns : goal.returns
returns c = set_counted
