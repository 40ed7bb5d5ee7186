use Rattle.std.proofs.Common.{◌≡◌, ℕ}
use Rattle.disk_model.specs.Frames.{bytes_of}
use Rattle.disk_model.specs.Store.{undone}
use Rattle.disk_model.proofs.store.undo.Given as goal

abbrev pub invariant-loop-last : goal.invariant-loop-last
invariant-loop-last l = (place : ℕ) → undone (bytes_of l.frames) l.pending.items place ≡ undone (bytes_of l.fn.frames) l.fn.pending.items place

abbrev pub decreases-loop-last : goal.decreases-loop-last
decreases-loop-last l = goal.left-loop-last l
