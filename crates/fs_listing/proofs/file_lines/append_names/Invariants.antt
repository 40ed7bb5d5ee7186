-- The lines of the slots that are left give all that are to be there.
use Rattle.std.proofs.Common.{◌≡◌, ◌++◌, drop}
use Rattle.fs_listing.specs.Listing.{name_lines}
use Rattle.fs_listing.proofs.file_lines.append_names.Given as goal

abbrev pub invariant-loop-slot : goal.invariant-loop-slot
invariant-loop-slot l =
    l.lines ++ name_lines l.directory l.slot (drop l.slot l.entry-items) ≡ l.initial.lines ++ name_lines l.directory 0 l.entry-items
