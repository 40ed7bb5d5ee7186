use Rattle.fs_image.proofs.WrittenLemmas.{written_is_shown}
use Rattle.fs_image.proofs.laws.written_is_shown.Goals as goal

pub returns : goal.returns
returns c = written_is_shown
