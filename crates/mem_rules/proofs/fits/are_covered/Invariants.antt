use Rattle.std.specs.List.{AllWithin}
use Rattle.mem_rules.specs.Fit.{IsCovered}
use Rattle.mem_rules.proofs.fits.are_covered.Given as goal

-- the writes so far are covered
abbrev pub invariant-loop-write : goal.invariant-loop-write
invariant-loop-write l = AllWithin (IsCovered l.ranges) l.writes 0 l.write-index
