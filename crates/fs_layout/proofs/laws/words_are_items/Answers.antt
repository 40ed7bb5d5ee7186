use Rattle.fs_layout.proofs.WordLemmas.{words_items}
use Rattle.fs_layout.proofs.laws.words_are_items.Goals as goal

pub returns : goal.returns
returns c = words_items
