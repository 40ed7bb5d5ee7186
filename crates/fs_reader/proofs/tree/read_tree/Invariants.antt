-- The numbers so far were read, from marks that are the maps of the images.
use Rattle.std.proofs.Common.{◌≡◌, ◌+◌, ◌*◌}
use Rattle.std.specs.Prelude.{length}
use Rattle.fs_reader.specs.Numbers.{IsReadBelow}
use Rattle.fs_reader.proofs.tree.read_tree.Given as goal

abbrev pub invariant-loop-before : goal.invariant-loop-before
invariant-loop-before l = (length l.left.items ≡ 2048 * l.geometry.memories)
    × IsReadBelow l.geometry l.parts (l.before + 1) l.initial.left.items l.left.items l.tree
