use Rattle.std.proofs.Common.{List, drop, length, ◌≤◌, sym, ap, ◌∙◌, arith}
use Rattle.std.proofs.lemmas.List.{at_drop_all}
use Rattle.mini_tx.specs.declared.item.Item.{Item}
use Rattle.tx_coord.specs.Rules.{have_lengths}
use Rattle.tx_coord.proofs.FitLemmas.{all_taken, lengths_are, lengths_for}
use Rattle.tx_coord.proofs.fit.are_reads.Goals as goal

pub loop-item-init : goal.loop-item-init
loop-item-init c = (omega arith, ap (λ lengths. have_lengths lengths c.args.reads.now) (lengths_are c.args.memory_node 0 c.args.items.now))

pub returns : goal.returns
returns c =
    let test = c.loop-item-test.false in
    let over : length c.args.items.now ≤ c.loop-item.item-index = omega (arith, test) in
    all_taken c.args.reads.now c.loop-item.next c.loop-item.invariant.0
    ∙ sym (at_drop_all (λ (left : List Item). have_lengths (lengths_for c.args.memory_node left) (drop c.loop-item.next c.args.reads.now)) c.args.items.now c.loop-item.item-index over)
    ∙ c.loop-item.invariant.1
