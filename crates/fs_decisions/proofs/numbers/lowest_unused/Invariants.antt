use Rattle.std.proofs.Common.{◌≡◌, None, map}
use Rattle.std.specs.Prelude.{find}
use Rattle.fs_rules.specs.Lists.{below}
use Rattle.fs_rules.specs.Numbers.{is_free, number_of}
use Rattle.fs_decisions.proofs.numbers.lowest_unused.Given as goal

abbrev pub invariant-loop-inode : goal.invariant-loop-inode
invariant-loop-inode l = find (is_free l.tree) (map (number_of l.memory) (below l.inode)) ≡ None
