-- So many images were read.
use Rattle.tree_command.proofs.ImageLemmas.{AreBegun}
use Rattle.tree_command.proofs.parts.read_parts.Given as goal

abbrev pub invariant-loop : goal.invariant-loop
invariant-loop g l =
    AreBegun l.geometry (g.S.Source.left l.initial.input) (g.S.Source.left l.input) (g.S.Source.faults l.initial.input) (g.S.Source.faults l.input) l.parts l.counter
