use Rattle.std.proofs.Common.{take}
use Rattle.lock_table.specs.Order.{IsLeastIn}
use Rattle.lock_table.specs.Locked.{Blocks}
use Rattle.lock_table.proofs.calls.least_holder.Given as goal

-- the least that locks a place of the ranges so far
abbrev pub invariant-loop-range : goal.invariant-loop-range
invariant-loop-range l = IsLeastIn (Blocks l.locks (take l.range-index l.ranges)) l.least
