use Rattle.std.proofs.Common.{length, ◌-◌, ◌≡◌, ◌≤◌, ℕ, take}
use Rattle.disk_model.specs.Crash.{put}
use Rattle.disk_model.specs.Frames.{bytes_of}
use Rattle.disk_model.proofs.frames.Frames.write.Given as goal

abbrev pub invariant-loop-done : goal.invariant-loop-done
invariant-loop-done l = (l.done ≤ length l.from) × ((place : ℕ) → bytes_of l.self place ≡ put (bytes_of l.fn.self) l.at (take l.done l.from) place)

abbrev pub decreases-loop-done : goal.decreases-loop-done
decreases-loop-done l = length l.from - l.done
