use Rattle.std.proofs.Common.{◌≤◌, List, length, sym, ap, subst, ◌∙◌}
use Rattle.std.specs.Prelude.{Box}
use Rattle.std.specs.declared.alloc.Global.{Global}
use Rattle.std.specs.List.{insert}
use Rattle.mem_rules.specs.declared.kept.Kept.{Kept}
use Rattle.mem_rules.specs.Records.{IsPlaceOf, records_in, unboxed}
use Rattle.mem_rules.proofs.RecordLemmas.{placed_is, insert_unboxed}
use Rattle.mem_rules.proofs.AnswerLemmas.{when_ok}
use Rattle.mem_rules.proofs.records.Records.keep.Goals as goal

pub returns : goal.returns
returns c =
    let boxes = c.args.self.now.0.items in
    let b = c.args.record in
    let kept = records_in c.args.self.now in
    let at = c.place_of-at.result in
    let place = subst (λ (bs : List (Box Kept Global)). IsPlaceOf (unboxed bs) b.value.id at) c.as_slice.ensures.value
    (subst (λ (k : Kept). IsPlaceOf (unboxed c.as_slice.result.now) k.id at) c.deref.ensures c.place_of-at.ensures.place) in
    let bound : at ≤ length kept = subst (λ (bs : List (Box Kept Global)). at ≤ length (unboxed bs)) c.as_slice.ensures.value c.place_of-at.ensures.bound in
    ap unboxed (c.insert-inserted.ensures.items ∙ when_ok c.insert-inserted.result (c.insert-inserted.ensures.succeeds c.requires.room) (insert boxes at b) boxes)
    ∙ insert_unboxed boxes at b ∙ sym (placed_is b.value kept at bound place)
