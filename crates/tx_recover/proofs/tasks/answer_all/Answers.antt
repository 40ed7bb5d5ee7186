use Rattle.std.proofs.Common.{ap, sym, List, drop, length, ◌++◌, ◌<◌, ◌∙◌, ◌+◌, append_assoc, arith}
use Rattle.std.specs.List.{flat_map}
use Rattle.std.specs.Prelude.{slice_set}
use Rattle.tx_coord.specs.declared.outgoing.Outgoing.{Outgoing}
use Rattle.tx_recover.specs.declared.work.Work.{Work}
use Rattle.tx_recover.specs.Rules.{answered}
use Rattle.tx_recover.proofs.ListLemmas.{changed, next_is}
use Rattle.tx_recover.proofs.tasks.answer_all.Goals as goal

pub loop-work-preserved : goal.loop-work-preserved
loop-work-preserved c =
    let test = c.loop-work-test.true in
    let same = c.loop-work.auto.work-items in
    let below : c.loop-work.work-index < length c.loop-work.work-items = omega (arith, test, same) in
    let f = λ (w : Work). (answered c.args.from c.args.id c.args.ok w).now in
    let g = λ (w : Work). (answered c.args.from c.args.id c.args.ok w).posts in (
      ap (λ x. slice_set c.loop-work.work-items c.loop-work.work-index x) c.in_ok-answer.ensures.now
          ∙ ap (λ x. slice_set c.loop-work.work-items c.loop-work.work-index (f x)) (sym c.work-item.is)
          ∙ changed f _ _ c.loop-work.work-index _ c.loop-work.invariant.0 below c.work-item.is,
      ap (λ (posts : List Outgoing). posts ++ flat_map g (drop (c.loop-work.work-index + 1) c.deref_mut-work-items.result.now))
          (c.in_ok-append.ensures.ok ∙ ap (λ (more : List Outgoing). c.loop-work.posts ++ more) c.in_ok-answer.ensures.posts)
          ∙ ap (λ (x : Work). (c.loop-work.posts ++ g x) ++ flat_map g (drop (c.loop-work.work-index + 1) c.deref_mut-work-items.result.now)) (sym c.work-item.is)
          ∙ append_assoc c.loop-work.posts _ _
          ∙ ap (λ (works : List Work). c.loop-work.posts ++ flat_map g works) (sym (next_is f _ _ c.loop-work.work-index _ c.loop-work.invariant.0 below c.work-item.is))
          ∙ c.loop-work.invariant.1,
    )
