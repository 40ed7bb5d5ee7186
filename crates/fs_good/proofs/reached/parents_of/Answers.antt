use Rattle.std.proofs.Common.{arith}
use Rattle.fs_good.proofs.ReachedLemmas.{noted_first, noted_more, noted_all}
use Rattle.fs_good.proofs.reached.parents_of.Goals as goal

pub loop-number-init : goal.loop-number-init
loop-number-init c = noted_first c.args.tree.now c.requires.ready c.new-parents.result c.new-parents.ensures

pub loop-number-preserved : goal.loop-number-preserved
loop-number-preserved c =
    noted_more c.args.tree.now c.requires.ready c.loop-number.parents c.note_parent.new.parents c.loop-number.number (omega arith) c.loop-number.invariant c.in_ok-note_parent.ensures.here
    c.in_ok-note_parent.ensures.others

pub returns : goal.returns
returns c = noted_all c.args.tree.now c.requires.ready c.loop-number.parents c.loop-number.number c.requires.limits (omega arith) c.loop-number.invariant
