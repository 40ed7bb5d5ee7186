use Rattle.std.proofs.Common.{◌≡◌, drop}
use Rattle.lock_table.specs.Order.{least_among}
use Rattle.lock_table.proofs.window.least_among.Given as goal

-- with what was found so far, the locks that are left give what all give
abbrev pub invariant-loop-lock : goal.invariant-loop-lock
invariant-loop-lock l = least_among l.found (drop l.lock-index l.locks) ≡ least_among l.fn.least l.locks
