use Rattle.std.proofs.Common.{ℕ, length, refl, subst, arith}
use Rattle.std.proofs.lemmas.Option.{slice_get_read}
use Rattle.fs_good.specs.Reached.{Reaches}
use Rattle.fs_good.proofs.ReachedLemmas.{reaches_none, reaches_more}
use Rattle.fs_good.proofs.reached.reach_all.Goals as goal

pub loop-slot-init : goal.loop-slot-init
loop-slot-init c = reaches_none c.args.slots.now c.args.unknown.now c.args.work.now.items

pub loop-slot-preserved : goal.loop-slot-preserved
loop-slot-preserved c =
    reaches_more c.args.slots.now c.loop-slot.slot-index c.slot-item.result c.args.unknown.now c.loop-slot.unknown c.reach.new.unknown c.args.work.now.items c.loop-slot.work.items c.reach.new.work.items
    (slice_get_read c.args.slots.now (length c.args.slots.now) c.loop-slot.slot-index c.slot-item.result refl c.loop-slot-test.true c.slot-item.is) c.loop-slot.invariant c.in_ok-reach.ensures

pub returns : goal.returns
returns c =
    subst (λ (k : ℕ). Reaches c.args.slots.now k c.args.unknown.now c.args.work.now.items c.loop-slot.unknown c.loop-slot.work.items) (omega arith) c.loop-slot.invariant
