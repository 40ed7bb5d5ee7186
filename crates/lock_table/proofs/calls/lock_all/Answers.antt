use Rattle.std.proofs.Common.{refl, sym, subst}
use Rattle.lock_table.specs.declared.span.Span.{Span}
use Rattle.lock_table.specs.Locked.{IsSpanFreeFor}
use Rattle.lock_table.proofs.CallLemmas.{still_free}
use Rattle.lock_table.proofs.calls.lock_all.Goals as goal

pub lock_one-requires-clause-free : goal.lock_one-requires-clause-free
lock_one-requires-clause-free c =
    subst (λ (s : Span). IsSpanFreeFor c.loop-range.locks.items c.args.holder s) (sym c.of.ensures)
    (still_free c.args.locks.now.items c.args.holder c.args.ranges.now c.loop-range.range-index _ _ c.loop-range-test.true refl c.loop-range.locks.items c.requires.free
    c.loop-range.invariant.beside)
