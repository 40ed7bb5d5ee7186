use Rattle.std.proofs.Common.{◌≤◌, ◌+◌, length, take}
use Rattle.std.specs.Prelude.{vec_len, vec_capacity}
use Rattle.lock_table.specs.Locked.{IsLine, IsLockedBeside}
use Rattle.lock_table.proofs.calls.lock_all.Given as goal

-- the ranges so far are locked, and there is room for those that are left
abbrev pub invariant-loop-range : goal.invariant-loop-range
invariant-loop-range l = record {
  line : IsLine l.locks.items;
  beside : IsLockedBeside l.fn.locks.items l.locks.items l.holder (take l.range-index l.ranges);
  room : vec_len l.locks + length l.ranges ≤ vec_capacity l.locks + l.range-index;
}
