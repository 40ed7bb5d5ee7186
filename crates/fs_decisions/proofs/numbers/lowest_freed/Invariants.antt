use Rattle.std.proofs.Common.{◌≡◌, ◌-◌, ◌≤◌, None, map}
use Rattle.std.specs.Prelude.{find}
use Rattle.fs_rules.specs.Lists.{below}
use Rattle.fs_rules.specs.Numbers.{is_free, number_of}
use Rattle.fs_decisions.proofs.numbers.lowest_freed.Given as goal

abbrev pub invariant-loop-inode : goal.invariant-loop-inode
invariant-loop-inode l = (l.inode ≤ l.given) × (find (is_free l.tree) (map (number_of l.memory) (below l.inode)) ≡ None)

abbrev pub decreases-loop-inode : goal.decreases-loop-inode
decreases-loop-inode l = l.given - l.inode
