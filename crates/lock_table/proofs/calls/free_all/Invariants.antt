use Rattle.std.proofs.Common.{take}
use Rattle.lock_table.specs.Locked.{IsLine}
use Rattle.lock_table.proofs.CallLemmas.{IsFreedSoFar}
use Rattle.lock_table.proofs.calls.free_all.Given as goal

-- nothing of the ranges so far is locked by the identifier
abbrev pub invariant-loop-range : goal.invariant-loop-range
invariant-loop-range l = record {
  line : IsLine l.locks.items;
  so_far : IsFreedSoFar l.fn.locks.items l.locks.items l.fn.holder (take l.range-index l.ranges);
}
