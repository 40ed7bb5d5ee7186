use Rattle.std.proofs.Common.{refl, sym, subst}
use Rattle.lock_table.specs.declared.span.Span.{Span}
use Rattle.lock_table.specs.Locked.{IsSpanFreeFor}
use Rattle.lock_table.proofs.CallLemmas.{free_yet, one_freed}
use Rattle.lock_table.proofs.CellLemmas.{IsWithout}
use Rattle.lock_table.proofs.TakenLemmas.{some_places, left_without}
use Rattle.lock_table.proofs.calls.free_all.Goals as goal

pub loop-range-preserved : goal.loop-range-preserved
loop-range-preserved c =
    let now = c.loop-range.locks.items in
    let some = some_places c.of.result _ c.of.ensures (c.requires.some c.loop-range.range-index _ c.loop-range-test.true) in
    let free = free_yet c.args.locks.now.items c.args.holder c.args.ranges.now c.loop-range.range-index _ _ c.loop-range-test.true refl now c.requires.free
    c.loop-range.invariant.so_far in
    record {
      line = c.take_out.ensures.line;
      so_far = one_freed c.args.locks.now.items c.args.holder c.args.ranges.now c.loop-range.range-index _ _ c.loop-range-test.true refl now c.take_out.new.locks.items
          c.loop-range.invariant.so_far
          (subst (λ (s : Span). IsWithout now c.take_out.new.locks.items c.args.holder s) c.of.ensures
          (left_without now c.take_out.new.locks.items c.of.result c.take_out.result.0 c.take_out.result.1 c.args.holder some c.loop-range.invariant.line
          (subst (λ (s : Span). IsSpanFreeFor now c.args.holder s) (sym c.of.ensures) free) c.take_out.ensures.taken));
    }
