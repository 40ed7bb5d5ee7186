use Rattle.std.proofs.Common.{◌≡◌, ◌++◌, drop}
use Rattle.mem_rules.specs.Items.{reads_of}
use Rattle.mem_rules.proofs.items.reads.Given as goal

-- what was read, and what is left to read
abbrev pub invariant-loop-placed : goal.invariant-loop-placed
invariant-loop-placed l = l.reads ++ reads_of l.image (drop l.placed-index l.items) ≡ reads_of l.image l.items
