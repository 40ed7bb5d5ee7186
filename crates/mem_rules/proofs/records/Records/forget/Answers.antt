use Rattle.std.proofs.Common.{List, sym, ap, subst, ◌∙◌, arith}
use Rattle.std.specs.Prelude.{Box, box_value}
use Rattle.std.specs.declared.alloc.Global.{Global}
use Rattle.std.proofs.lemmas.List.{length-map}
use Rattle.mem_rules.specs.declared.kept.Kept.{Kept}
use Rattle.mem_rules.specs.Records.{IsPlaceOf, records_in, unboxed}
use Rattle.mem_rules.proofs.RecordLemmas.{is_there, forgotten_is, remove_unboxed}
use Rattle.mem_rules.proofs.records.Records.forget.Goals as goal

pub remove-requires : goal.remove-requires
remove-requires c =
    let kept = records_in c.args.self.now in
    let at = c.place_of-at.result in
    let place = subst (λ (bs : List (Box Kept Global)). IsPlaceOf (unboxed bs) c.args.id at) c.as_slice.ensures.value c.place_of-at.ensures.place in
    let there = is_there c.args.id kept at c.requires.ascending place c.requires.known in
    omega (arith, there.below, length-map c.args.self.now.0.items box_value, c.args.self.now.0.ok)

pub returns : goal.returns
returns c =
    let kept = records_in c.args.self.now in
    let at = c.place_of-at.result in
    let place = subst (λ (bs : List (Box Kept Global)). IsPlaceOf (unboxed bs) c.args.id at) c.as_slice.ensures.value c.place_of-at.ensures.place in
    let there = is_there c.args.id kept at c.requires.ascending place c.requires.known in
    ap unboxed c.remove.ensures.items ∙ remove_unboxed c.args.self.now.0.items at
    ∙ sym (forgotten_is c.args.id there.record_ kept at c.requires.ascending place there.there there.same)
