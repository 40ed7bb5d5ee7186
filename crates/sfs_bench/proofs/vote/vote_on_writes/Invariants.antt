use Rattle.std.proofs.Common.{◌≡◌}
use Rattle.sfs_bench.specs.Fixture.{lone}
use Rattle.mem_node.specs.Node.{setup_of}
use Rattle.sfs_bench.proofs.vote.vote_on_writes.Given as goal

-- it is the memory node of the smallest cluster
abbrev pub invariant-loop-seq : goal.invariant-loop-seq
invariant-loop-seq g l = setup_of l.node ≡ lone
