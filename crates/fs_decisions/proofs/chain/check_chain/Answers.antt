use Rattle.std.proofs.Common.{◌+◌, sym, ap, ◌∙◌, arith}
use Rattle.fs_checks.specs.Verdict.{verdict}
use Rattle.fs_decisions.proofs.ChainLemmas.{moved_none, moved_once, row}
use Rattle.fs_decisions.proofs.chain.check_chain.Goals as goal

pub loop-init : goal.loop-init
loop-init c = moved_none c.args.tree.now c.args.dir c.args.source c.is_at-is_above.result c.is_at-is_above.ensures

pub loop-preserved : goal.loop-preserved
loop-preserved c =
    moved_once c.args.tree.now c.args.dir c.args.source c.loop.counter (c.loop.counter + 1) c.loop.at c.parent_of_any-at.result c.loop.is_above c.is_at-is_above-in-loop.result
    c.loop.invariant (omega arith) c.parent_of_any-at.ensures c.is_at-is_above-in-loop.ensures

pub returns : goal.returns
returns c =
    c.check_way.ensures
    ∙ ap verdict (sym (row c.args.tree.now c.args.dir c.args.source c.loop.counter c.loop.at c.is_at.result c.loop.is_above
    c.loop.invariant (omega (arith, c.loop-test.false, c.loop.auto)) c.is_at.ensures))
