use Rattle.fs_layout.proofs.WordLemmas.{words_one}
use Rattle.fs_layout.proofs.laws.words_have_one_value.Goals as goal

pub returns : goal.returns
returns c = words_one
