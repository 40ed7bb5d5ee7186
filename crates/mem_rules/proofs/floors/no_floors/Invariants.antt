use Rattle.std.proofs.Common.{◌≡◌, None}
use Rattle.std.specs.Prelude.{replicate}
use Rattle.mem_rules.proofs.floors.no_floors.Given as goal

-- so many floors so far
abbrev pub invariant-loop-count : goal.invariant-loop-count
invariant-loop-count l = l.floors.items ≡ replicate l._count None
