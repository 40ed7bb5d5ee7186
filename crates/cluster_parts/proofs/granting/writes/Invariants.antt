use Rattle.std.proofs.Common.{◌≡◌, drop}
use Rattle.mem_rules.specs.Items.{any_write}
use Rattle.cluster_parts.proofs.granting.writes.Given as goal

-- what is told of the items that are left is told of all
abbrev pub invariant-loop-placed : goal.invariant-loop-placed
invariant-loop-placed l = any_write (drop l.placed-index l.items) ≡ any_write l.items
