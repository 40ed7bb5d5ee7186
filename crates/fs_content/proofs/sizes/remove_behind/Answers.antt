use Rattle.std.proofs.Common.{◌<◌, ap, sym, subst, ◌∙◌}
use Rattle.std.specs.FinMap.{len}
use Rattle.fs_rules.specs.Contents.{blocks_below}
use Rattle.fs_content.proofs.SizeLemmas.{below_removed, len_removed}
use Rattle.fs_content.proofs.sizes.remove_behind.Goals as goal

pub loop-last-smaller-in-Some : goal.loop-last-smaller-in-Some
loop-last-smaller-in-Some c =
    subst (λ b. len b < len c.loop-last.blocks) (sym c.remove.ensures.removed) (len_removed c.loop-last.blocks c.in-Some.last c.in-Some.ensures.some.1)

pub loop-last-preserved-in-Some : goal.loop-last-preserved-in-Some
loop-last-preserved-in-Some c =
    ap (blocks_below c.args.size) c.remove.ensures.removed ∙ below_removed c.args.size c.loop-last.blocks c.in-Some.last c.in-Some.ensures.some.0 ∙ c.loop-last.invariant
