use Rattle.fs_laws.proofs.ToldLemmas.{answers_can_be_told}
use Rattle.fs_laws.proofs.laws.answers_can_be_told.Goals as goal

pub returns : goal.returns
returns c = answers_can_be_told
