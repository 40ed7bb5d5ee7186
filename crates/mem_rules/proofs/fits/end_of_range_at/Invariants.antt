use Rattle.std.proofs.Common.{◌≡◌, drop}
use Rattle.std.specs.List.{list_any}
use Rattle.mem_rules.specs.Fit.{covers}
use Rattle.mem_rules.proofs.fits.end_of_range_at.Given as goal

-- a range that is left has the place where any has it
abbrev pub invariant-loop-range : goal.invariant-loop-range
invariant-loop-range l = list_any (covers l.place) (drop l.range-index l.ranges) ≡ list_any (covers l.place) l.ranges
