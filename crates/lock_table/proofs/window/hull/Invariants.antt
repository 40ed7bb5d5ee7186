use Rattle.std.proofs.Common.{◌≡◌, drop}
use Rattle.lock_table.specs.Spans.{hull}
use Rattle.lock_table.proofs.window.hull.Given as goal

-- with what was joined so far, the locks that are left give what all give
abbrev pub invariant-loop-lock : goal.invariant-loop-lock
invariant-loop-lock l = hull l.whole (drop l.lock-index l.locks) ≡ hull l.fn.span l.locks
