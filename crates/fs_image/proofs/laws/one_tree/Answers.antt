use Rattle.fs_image.proofs.TreeLemmas.{one_tree}
use Rattle.fs_image.proofs.laws.one_tree.Goals as goal

pub returns : goal.returns
returns c = one_tree
