use Rattle.std.proofs.Common.{◌≡◌}
use Rattle.std.specs.FinMap.{len}
use Rattle.fs_rules.specs.Contents.{blocks_below}
use Rattle.fs_content.proofs.sizes.remove_behind.Given as goal

abbrev pub invariant-loop-last : goal.invariant-loop-last
invariant-loop-last l = blocks_below l.size l.blocks ≡ blocks_below l.size l.initial.blocks

abbrev pub decreases-loop-last : goal.decreases-loop-last
decreases-loop-last l = len l.blocks
