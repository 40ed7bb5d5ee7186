use Rattle.std.proofs.Common.{◌≡◌, ◌<◌, ◌+◌, length, drop, ap, sym, subst, ◌∙◌, arith}
use Rattle.mini_tx.specs.FlatMemory.{Flat, IsWithin, after}
use Rattle.mini_tx.proofs.FlatLemmas.{IsAsLarge, written, written_more, written_one, written_none}
use Rattle.mini_tx.proofs.flat_memory.write_all.Goals as goal
use Rattle.mini_tx.proofs.flat_memory.write_all.Goals.{in-Write, in_default}

pub loop-item-preserved : goal.loop-item-preserved
loop-item-preserved c =
    let i = c.item-item.result in
    let flat = c.loop-item.flat in
    let before = c.args.flat.now in
    let index = c.loop-item.item-index in
    let within : IsWithin before i = subst (IsWithin before) (sym c.item-item.is) (c.requires index i c.loop-item-test.true) in
    let step = written_more c.args.items.now index i flat before c.loop-item-test.true c.item-item.is c.loop-item.invariant.left c.loop-item.invariant.sized within in
    let is : c.match-item.flat ≡ written i flat =
    elim c.match-item.branch [
      | in-Write w ↦
          let there : w.in-Write.memory < length flat = omega (arith, subst (IsWithin before) w.in-Write.is within, c.loop-item.invariant.sized.nodes) in
          written_one i flat c.match-item.flat w.in-Write.memory w.in-Write.at w.in-Write.bytes w.as_slice.result.now w.write_at.new.image w.index-flat-memory.result
          w.in-Write.is there w.as_slice.ensures.value w.write_at.ensures w.flat-is
      | in_default w ↦ w.flat-is ∙ written_none i flat w.in_default.not-Write
    ] in
    record {
      left = ap (λ (f : Flat). after (drop (index + 1) c.args.items.now) f) is ∙ step.left;
      sized = subst (λ (f : Flat). IsAsLarge f before) (sym is) step.sized;
    }
