use Rattle.std.proofs.Common.{sym, ◌∙◌}
use Rattle.std.proofs.lemmas.Bool.{true≢false}
use Rattle.sfs_check.proofs.TreeLemmas.{are_sized, no_images}
use Rattle.sfs_check.proofs.tree.tree_in.Goals as goal

pub good_tree-requires-clause-sized : goal.good_tree-requires-clause-sized
good_tree-requires-clause-sized c = are_sized c.args.geometry.now c.args.parts.now c.requires.limits c.requires.memories (c.are_images.ensures.0 c.if-are_images.true)

pub returns-else-are_images-clause-none : goal.returns-else-are_images-clause-none
returns-else-are_images-clause-none c = λ _. no_images c.args.geometry.now c.args.parts.now (λ images. true≢false (sym (c.are_images.ensures.1 images) ∙ c.if-are_images.false))

pub good_tree-requires-clause-images : goal.good_tree-requires-clause-images
good_tree-requires-clause-images c = c.are_images.ensures.0 c.if-are_images.true
