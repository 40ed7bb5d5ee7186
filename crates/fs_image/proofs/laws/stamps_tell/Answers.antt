use Rattle.fs_image.proofs.StampLemmas.{stamps_tell}
use Rattle.fs_image.proofs.laws.stamps_tell.Goals as goal

pub returns : goal.returns
returns c = stamps_tell
