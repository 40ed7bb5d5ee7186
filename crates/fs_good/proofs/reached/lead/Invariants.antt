-- Some directories were reached, and the work is to look into those whose slots were not looked at.
use Rattle.std.proofs.Common.{◌+◌, length}
use Rattle.std.specs.FinMap.{len}
use Rattle.fs_good.specs.Reached.{IsReachedTo}
use Rattle.fs_good.proofs.reached.lead.Given as goal

abbrev pub invariant-loop-number : goal.invariant-loop-number
invariant-loop-number l = IsReachedTo l.tree l.unknown l.work.items

abbrev pub decreases-loop-number : goal.decreases-loop-number
decreases-loop-number l = len l.unknown + length l.work.items
