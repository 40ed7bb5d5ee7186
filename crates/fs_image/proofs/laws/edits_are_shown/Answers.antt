use Rattle.fs_image.proofs.EditLemmas.{edits_are_shown}
use Rattle.fs_image.proofs.laws.edits_are_shown.Goals as goal

pub returns : goal.returns
returns c = edits_are_shown
