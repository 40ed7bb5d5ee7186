use Rattle.std.proofs.Common.{refl, sym, ◌∙◌}
use Rattle.std.proofs.lemmas.Bool.{true≢false}
use Rattle.fs_good.specs.Places.{IsUnder}
use Rattle.fs_good.proofs.LoopLemmas.{is_no, below_none, below_more, below_not, below_whole}
use Rattle.fs_good.proofs.place.are_under.Goals as goal

pub loop-slot-init : goal.loop-slot-init
loop-slot-init c = below_none (λ e. IsUnder c.args.tree.now c.args.number e) c.args.slots.now

pub returns-then-not-is_under : goal.returns-then-not-is_under
returns-then-not-is_under c =
    is_no (below_not (λ e. IsUnder c.args.tree.now c.args.number e) c.args.slots.now c.loop-slot.slot-index c.slot-item.result c.loop-slot-test.true c.slot-item.is
    (λ all. true≢false (sym (c.is_under.ensures.1 all) ∙ c.if-not-is_under.true)))

pub loop-slot-preserved : goal.loop-slot-preserved
loop-slot-preserved c =
    below_more (λ e. IsUnder c.args.tree.now c.args.number e) c.args.slots.now c.loop-slot.slot-index c.slot-item.result c.loop-slot-test.true c.slot-item.is (c.is_under.ensures.0 c.if-not-is_under.false) c.loop-slot.invariant

pub returns : goal.returns
returns c = (λ _. below_whole (λ e. IsUnder c.args.tree.now c.args.number e) c.args.slots.now c.loop-slot.slot-index c.loop-slot-test.false c.loop-slot.invariant, λ _. refl)
