use Rattle.std.proofs.Common.{◌≡◌, ◌++◌, drop}
use Rattle.mem_rules.specs.Items.{writes_of}
use Rattle.mem_rules.proofs.items.writes.Given as goal

-- the writes so far, and those that are left
abbrev pub invariant-loop-placed : goal.invariant-loop-placed
invariant-loop-placed l = l.writes ++ writes_of (drop l.placed-index l.items) ≡ writes_of l.items
