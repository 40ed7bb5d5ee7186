-- The entries that are left, added to the copy, make the whole table.
use Rattle.std.proofs.Common.{◌≡◌}
use Rattle.fs_tree.specs.Copying.{with_entries}
use Rattle.fs_tree.proofs.copy.copy_blocks.Given as goal

abbrev pub invariant-loop-index : goal.invariant-loop-index
invariant-loop-index l = with_entries l.copy l.index-iterator ≡ l.blocks
