use Rattle.std.proofs.Common.{ap, sym, length, ◌<◌, ◌∙◌, arith}
use Rattle.std.specs.Prelude.{slice_set}
use Rattle.tx_coord.specs.Rules.{noted}
use Rattle.tx_coord.proofs.DoneLemmas.{changed}
use Rattle.tx_coord.proofs.done.note_all.Goals as goal

pub loop-decided-preserved : goal.loop-decided-preserved
loop-decided-preserved c =
    let test = c.loop-decided-test.true in
    let same = c.loop-decided.auto.decided-items in
    let below : c.loop-decided.decided-index < length c.loop-decided.decided-items = omega (arith, test, same) in
    ap (λ x. slice_set c.loop-decided.decided-items c.loop-decided.decided-index x) c.note.ensures
    ∙ ap (λ x. slice_set c.loop-decided.decided-items c.loop-decided.decided-index (noted c.args.from c.args.id x)) (sym c.decided-item.is)
    ∙ changed (noted c.args.from c.args.id) _ _ c.loop-decided.decided-index _ c.loop-decided.invariant below c.decided-item.is
