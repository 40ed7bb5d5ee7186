use Rattle.std.proofs.Common.{◌≡◌}
use Rattle.sfs_bench.specs.Fixture.{pair}
use Rattle.mem_node.specs.Node.{setup_of}
use Rattle.sfs_bench.proofs.kept.commit_all.Given as goal

-- it is the first memory node of the cluster of two
abbrev pub invariant-loop-index : goal.invariant-loop-index
invariant-loop-index g l = setup_of l.node ≡ pair
