use Rattle.std.proofs.Common.{refl, sym, ◌∙◌}
use Rattle.std.proofs.lemmas.Bool.{true≢false}
use Rattle.fs_rules.specs.Good.{IsName}
use Rattle.fs_good.proofs.LoopLemmas.{is_no, below_none, below_more, below_not, below_whole}
use Rattle.fs_good.proofs.slots.have_names.Goals as goal

pub loop-slot-init : goal.loop-slot-init
loop-slot-init c = below_none (λ e. IsName e.name) c.args.slots.now

pub returns-then-not-has_name : goal.returns-then-not-has_name
returns-then-not-has_name c =
    is_no (below_not (λ e. IsName e.name) c.args.slots.now c.loop-slot.slot-index c.slot-item.result c.loop-slot-test.true c.slot-item.is
    (λ all. true≢false (sym (c.has_name.ensures.1 all) ∙ c.if-not-has_name.true)))

pub loop-slot-preserved : goal.loop-slot-preserved
loop-slot-preserved c =
    below_more (λ e. IsName e.name) c.args.slots.now c.loop-slot.slot-index c.slot-item.result c.loop-slot-test.true c.slot-item.is (c.has_name.ensures.0 c.if-not-has_name.false) c.loop-slot.invariant

pub returns : goal.returns
returns c = (λ _. below_whole (λ e. IsName e.name) c.args.slots.now c.loop-slot.slot-index c.loop-slot-test.false c.loop-slot.invariant, λ _. refl)
