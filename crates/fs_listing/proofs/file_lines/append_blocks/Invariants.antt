-- The lines of the blocks that are left give all that are to be there.
use Rattle.std.proofs.Common.{◌≡◌, ◌++◌}
use Rattle.std.specs.FinMap.{entries}
use Rattle.fs_listing.specs.Listing.{data_lines}
use Rattle.fs_listing.proofs.file_lines.append_blocks.Given as goal

abbrev pub invariant-loop-index : goal.invariant-loop-index
invariant-loop-index l =
    l.lines ++ data_lines l.number l.index-iterator ≡ l.initial.lines ++ data_lines l.number (entries l.blocks)
