-- The bytes before a place were read.
use Rattle.std.proofs.Common.{◌-◌, length}
use Rattle.tree_command.proofs.ImageLemmas.{IsFilled}
use Rattle.tree_command.proofs.image.fill.Given as goal

abbrev pub invariant-loop-at : goal.invariant-loop-at
invariant-loop-at g l =
    IsFilled (g.S.Source.left l.initial.input) (g.S.Source.left l.input) (g.S.Source.faults l.initial.input) (g.S.Source.faults l.input) l.initial.image.items l.image.items l.at

-- each read gives some bytes
abbrev pub decreases-loop-at : goal.decreases-loop-at
decreases-loop-at g l = length l.image.items - l.at
