use Rattle.std.proofs.Common.{◌≡◌, ◌++◌, drop, map}
use Rattle.mem_rules.specs.Items.{range_of}
use Rattle.mem_rules.proofs.items.ranges.Given as goal

-- the ranges so far, and those that are left
abbrev pub invariant-loop-placed : goal.invariant-loop-placed
invariant-loop-placed l = l.ranges ++ map range_of (drop l.placed-index l.items) ≡ map range_of l.items
