use Rattle.std.proofs.Common.{◌≡◌, drop}
use Rattle.mem_rules.specs.Items.{first_difference}
use Rattle.mem_rules.proofs.items.difference.Given as goal

-- what is found among the items that are left is found among all
abbrev pub invariant-loop-placed : goal.invariant-loop-placed
invariant-loop-placed l = first_difference l.image (drop l.placed-index l.items) ≡ first_difference l.image l.items
