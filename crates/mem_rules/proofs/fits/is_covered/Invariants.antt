use Rattle.std.proofs.Common.{◌≤◌, ◌<◌, ℕ}
use Rattle.mem_rules.specs.Fit.{IsIn}
use Rattle.mem_rules.proofs.fits.is_covered.Given as goal

-- the bytes up to the place are covered, and it has gone on as far as the loop
abbrev pub invariant-loop-place : goal.invariant-loop-place
invariant-loop-place l = record {
  covered : (p : ℕ) → l.start ≤ p → p < l.place → IsIn l.ranges p;
  far : l._place ≤ l.place;
}
