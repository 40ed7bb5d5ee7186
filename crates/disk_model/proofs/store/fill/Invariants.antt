use Rattle.std.proofs.Common.{◌≡◌, ℕ, cond}
use Rattle.disk_model.specs.Crash.{is_pending}
use Rattle.disk_model.specs.Frames.{bytes_of}
use Rattle.disk_model.specs.Store.{ranges_of}
use Rattle.disk_model.proofs.store.fill.Given as goal

abbrev pub invariant-loop-last : goal.invariant-loop-last
invariant-loop-last l = (place : ℕ) → cond (is_pending (ranges_of l.pending.items) place) l.byte (bytes_of l.frames place)
    ≡ cond (is_pending (ranges_of l.fn.pending.items) place) l.byte (bytes_of l.fn.frames place)

abbrev pub decreases-loop-last : goal.decreases-loop-last
decreases-loop-last l = goal.left-loop-last l
