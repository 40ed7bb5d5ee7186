-- All but the lines of the files that are left was written.
use Rattle.fs_listing.specs.Listing.{listing}
use Rattle.tree_command.specs.Writing.{text_of}
use Rattle.tree_command.proofs.WriteLemmas.{IsListed}
use Rattle.tree_command.proofs.listing.write_listing.Given as goal

abbrev pub invariant-loop-number : goal.invariant-loop-number
invariant-loop-number g l =
    IsListed (g.K.Sink.held l.initial.output) (g.K.Sink.held l.output) (g.K.Sink.faults l.initial.output) (g.K.Sink.faults l.output) (text_of (listing l.tree)) l.number-iterator
