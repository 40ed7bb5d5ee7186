use Rattle.std.proofs.Common.{ap, sym, length, ◌<◌, ◌∙◌, arith}
use Rattle.std.specs.Prelude.{slice_set}
use Rattle.tx_recover.specs.Rules.{noted}
use Rattle.tx_recover.proofs.ListLemmas.{changed}
use Rattle.tx_recover.proofs.tasks.note_all.Goals as goal

pub loop-work-preserved : goal.loop-work-preserved
loop-work-preserved c =
    let test = c.loop-work-test.true in
    let same = c.loop-work.auto.work-items in
    let below : c.loop-work.work-index < length c.loop-work.work-items = omega (arith, test, same) in
    ap (λ x. slice_set c.loop-work.work-items c.loop-work.work-index x) c.note.ensures
    ∙ ap (λ x. slice_set c.loop-work.work-items c.loop-work.work-index (noted c.args.from c.args.id x)) (sym c.work-item.is)
    ∙ changed (noted c.args.from c.args.id) _ _ c.loop-work.work-index _ c.loop-work.invariant below c.work-item.is
