-- The first at the node is among those that are left.
use Rattle.std.proofs.Common.{◌≡◌, drop}
use Rattle.transcript_book.specs.Opens.{first_of}
use Rattle.transcript_book.proofs.arrivals.first_at.Given as goal

abbrev pub invariant-loop-one : goal.invariant-loop-one
invariant-loop-one l = first_of l.node (drop l.one-index l.going) ≡ first_of l.node l.going
