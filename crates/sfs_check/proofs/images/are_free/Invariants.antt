-- The bits so far are free.
use Rattle.std.proofs.Common.{◌≡◌, ℕ, ◌<◌, ◌≤◌, false}
use Rattle.fs_bitmap.specs.Bits.{is_used}
use Rattle.sfs_check.proofs.images.are_free.Given as goal

abbrev pub invariant-loop-bit : goal.invariant-loop-bit
invariant-loop-bit l = (k : ℕ) → l.from ≤ k → k < l.bit → is_used l.map k ≡ false
