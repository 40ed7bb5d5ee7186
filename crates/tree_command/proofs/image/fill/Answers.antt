use Rattle.std.proofs.Common.{◌≡◌, ◌+◌, length, arith}
use Rattle.tree_command.proofs.ImageLemmas.{filled_more, written_back}
use Rattle.tree_command.proofs.image.fill.Goals as goal

pub loop-at-preserved : goal.loop-at-preserved
loop-at-preserved g c =
    let ok = c.in_ok-count.ensures {u = tt} in
    let sum : length c.read.new.into + c.loop-at.at ≡ length c.loop-at.image.items = omega (arith, c.read.auto.into, c.deref_mut.ensures.len, c.loop-at.invariant.within) in
    filled_more _ _ _ _ _ _ _ c.loop-at.image.items c.read.new.into _ c.loop-at.at c.in_ok-count.count c.loop-at.invariant ok.given (omega (arith, ok.within, c.read.auto.into)) sum
    (written_back c.loop-at.image.items c.deref_mut.result.now c.read.new.into c.loop-at.at c.loop-at.image.len c.deref_mut.ensures.value (omega (arith, c.loop-at.image.ok)) c.loop-at.invariant.within sum)
    ok.cause.kept
