-- So many bytes of the line were read.
use Rattle.tree_command.proofs.HeadLemmas.{IsBegun}
use Rattle.tree_command.proofs.head.read_head.Given as goal

abbrev pub invariant-loop : goal.invariant-loop
invariant-loop g l =
    IsBegun (g.S.Source.left l.initial.input) (g.S.Source.left l.input) (g.S.Source.faults l.initial.input) (g.S.Source.faults l.input) l.line l.counter
