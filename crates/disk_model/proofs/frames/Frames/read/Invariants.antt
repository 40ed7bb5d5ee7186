use Rattle.std.proofs.Common.{length, ◌-◌, ◌≡◌, ◌+◌, ◌<◌, ◌≤◌, ℕ, get_or}
use Rattle.disk_model.specs.Frames.{bytes_of}
use Rattle.disk_model.proofs.frames.Frames.read.Given as goal

abbrev pub invariant-loop-done : goal.invariant-loop-done
invariant-loop-done l = (l.done ≤ length l.into) × ((i : ℕ) → i < l.done → bytes_of l.self (l.at + i) ≡ get_or l.into i 0)

abbrev pub decreases-loop-done : goal.decreases-loop-done
decreases-loop-done l = length l.initial.into - l.done
