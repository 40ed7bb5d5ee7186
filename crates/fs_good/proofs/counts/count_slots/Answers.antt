use Rattle.std.proofs.Common.{◌+◌, inl, subst, arith}
use Rattle.std.specs.Prelude.{count_by}
use Rattle.std.proofs.lemmas.List.{take_all}
use Rattle.fs_rules.specs.Good.{names_file}
use Rattle.fs_good.specs.Counts.{IsCapped, count_in}
use Rattle.fs_good.proofs.CountLemmas.{slots_counted}
use Rattle.fs_good.proofs.counts.count_slots.Goals as goal

pub loop-slot-init : goal.loop-slot-init
loop-slot-init c = λ n. inl (omega arith)

pub loop-slot-preserved : goal.loop-slot-preserved
loop-slot-preserved c = λ n.
    slots_counted n c.args.slots.now c.loop-slot.slot-index c.slot-item.result (count_in c.loop-slot.counts n) (count_in c.args.counts.now n) (count_in c.count_slot.new.counts n) c.loop-slot-test.true
    c.slot-item.is (c.loop-slot.invariant n) (c.in_ok-count_slot.ensures n)

pub returns : goal.returns
returns c = λ n.
    subst (λ xs. IsCapped (count_in c.loop-slot.counts n) (count_in c.args.counts.now n + count_by (names_file n) xs)) (take_all c.loop-slot.slot-index c.args.slots.now c.loop-slot-test.false) (c.loop-slot.invariant n)
