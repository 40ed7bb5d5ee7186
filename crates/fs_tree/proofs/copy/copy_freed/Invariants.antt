-- The entries that are left, added to the copy, make the whole table.
use Rattle.std.proofs.Common.{◌≡◌}
use Rattle.fs_tree.specs.Copying.{with_entries}
use Rattle.fs_tree.proofs.copy.copy_freed.Given as goal

abbrev pub invariant-loop-number : goal.invariant-loop-number
invariant-loop-number l = with_entries l.copy l.number-iterator ≡ l.freed
