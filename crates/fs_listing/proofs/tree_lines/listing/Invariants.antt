-- The lines of the files that are left give those of the tree.
use Rattle.std.proofs.Common.{◌≡◌, ◌++◌}
use Rattle.std.specs.FinMap.{entries}
use Rattle.std.specs.List.{flat_map}
use Rattle.fs_listing.specs.Listing.{file_lines}
use Rattle.fs_listing.proofs.tree_lines.listing.Given as goal

abbrev pub invariant-loop-number : goal.invariant-loop-number
invariant-loop-number l =
    l.lines ++ flat_map (λ file. file_lines file.0 file.1) l.number-iterator ≡ flat_map (λ file. file_lines file.0 file.1) (entries l.tree.files)
