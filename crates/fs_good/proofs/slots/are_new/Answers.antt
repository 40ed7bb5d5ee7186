use Rattle.std.proofs.Common.{refl}
use Rattle.fs_good.proofs.NameLemmas.{all_taken, taken_more}
use Rattle.fs_good.proofs.slots.are_new.Goals as goal

pub loop-slot-preserved : goal.loop-slot-preserved
loop-slot-preserved c =
    taken_more c.loop-slot.names.keys c.take_slot.new.names.keys c.args.slots.now c.loop-slot.slot-index c.slot-item.result c.in_ok-take_slot.field-0
    c.loop-slot-test.true c.slot-item.is c.loop-slot.invariant c.in_ok-take_slot.ensures c.if-not-branch.false

pub returns : goal.returns
returns c = (λ _. all_taken c.loop-slot.names.keys c.args.slots.now c.loop-slot.slot-index c.loop-slot-test.false c.loop-slot.invariant, λ _. refl)
