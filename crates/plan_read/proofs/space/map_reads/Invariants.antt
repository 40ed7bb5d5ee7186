use Rattle.std.proofs.Common.{◌≡◌, map}
use Rattle.fs_rules.specs.Lists.{below}
use Rattle.read_laws.specs.Answers.{map_read}
use Rattle.plan_read.proofs.space.map_reads.Given as goal

abbrev pub invariant-loop-memory : goal.invariant-loop-memory
invariant-loop-memory l = l.items ≡ map (map_read l.geometry) (below l.memory)
