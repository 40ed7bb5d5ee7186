use Rattle.std.proofs.Common.{◌+◌, ◌-◌, ◌*◌, subst, sym, arith}
use Rattle.std.proofs.lemmas.Result.{err_from_is_err_and}
use Rattle.fs_dir.proofs.BlockLemmas.{ReadSoFar, read_more, not_a_block}
use Rattle.fs_dir.proofs.block.read_all.Goals as goal

pub returns-in_err-slot-clause-bad : goal.returns-in_err-slot-clause-bad
returns-in_err-slot-clause-bad c =
    let i = c.loop-index.index in
    let p = err_from_is_err_and c.from_residual.result c.from_residual.ensures.1 in
    rw (p.1, p.2) (λ is. not_a_block c.args.bytes.now i (272 * i + 272 - 272 * i) (omega arith) (omega arith) (c.in_err-slot.ensures.bad is))

pub loop-index-preserved : goal.loop-index-preserved
loop-index-preserved c =
    let i = c.loop-index.index in
    subst (ReadSoFar c.args.bytes.now (i + 1)) (sym c.in_ok-push.ensures.ok)
    (read_more c.args.bytes.now i (272 * i + 272 - 272 * i) c.loop-index.slots c.in_ok-slot.slot (omega arith) c.loop-index.invariant c.in_ok-slot.ensures.found)
