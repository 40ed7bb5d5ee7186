use Rattle.std.proofs.Common.{sym, ◌∙◌}
use Rattle.std.proofs.lemmas.Bool.{true≢false}
use Rattle.sfs_check.proofs.TreeLemmas.{stands, not_good}
use Rattle.sfs_check.proofs.tree.good_tree.Goals as goal

pub returns-then-good-clause-stands : goal.returns-then-good-clause-stands
returns-then-good-clause-stands c = stands c.args.geometry.now c.args.parts.now c.in_ok-tree.tree c.in_ok-tree.ensures.ok (c.in_ok-good.ensures.0 c.if-good.true)

pub returns-else-good-clause-none : goal.returns-else-good-clause-none
returns-else-good-clause-none c = λ _.
    not_good c.args.geometry.now c.args.parts.now c.in_ok-tree.tree c.in_ok-tree.ensures.ok (λ good. true≢false (sym (c.in_ok-good.ensures.1 good) ∙ c.if-good.false))
