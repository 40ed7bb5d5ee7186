use Rattle.std.proofs.Common.{◌+◌, List, Option, take, refl, sym, ap, subst, ◌∙◌}
use Rattle.std.specs.List.{slice_range}
use Rattle.std.proofs.lemmas.List.{take_all}
use Rattle.mini_tx.specs.declared.range.Range.{Range}
use Rattle.mini_tx.specs.declared.tx_id.TxId.{TxId}
use Rattle.lock_table.specs.declared.lock.Lock.{Lock}
use Rattle.lock_table.specs.Order.{least_among, IsLeastIn}
use Rattle.lock_table.specs.Locked.{Blocks}
use Rattle.lock_table.proofs.LeastLemmas.{one_range}
use Rattle.lock_table.proofs.PartLemmas.{middle_is}
use Rattle.lock_table.proofs.calls.least_holder.Goals as goal

pub loop-range-preserved : goal.loop-range-preserved
loop-range-preserved c =
    let locks = c.args.locks.now in
    let w = c.window-from.ensures in
    let middle = ap (λ (ls : List Lock). slice_range ls c.window-from.result.0 c.window-from.result.1) w.is
    ∙ middle_is w.front w.middle w.rest c.window-from.result.0 c.window-from.result.1 w.begins w.ends in
    subst (λ (o : Option TxId). IsLeastIn (Blocks locks (take (c.loop-range.range-index + 1) c.args.ranges.now)) o)
    (sym (c.least_among-least.ensures ∙ ap (λ (ls : List Lock). least_among c.loop-range.least ls) middle))
    (one_range locks c.args.ranges.now c.loop-range.range-index _ _ c.of.result c.window-from.result.0 c.window-from.result.1 c.loop-range.least c.loop-range-test.true refl
    c.of.ensures (c.requires.some c.loop-range.range-index _ c.loop-range-test.true) c.requires.line w c.loop-range.invariant)

pub returns : goal.returns
returns c =
    subst (λ (rs : List Range). IsLeastIn (Blocks c.args.locks.now rs) c.loop-range.least) (take_all c.loop-range.range-index c.args.ranges.now c.loop-range-test.false)
    c.loop-range.invariant
