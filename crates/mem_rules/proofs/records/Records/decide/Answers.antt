use Rattle.std.proofs.Common.{◌≡◌, ◌<◌, List, length, set, sym, ap, subst, ◌∙◌, arith}
use Rattle.std.specs.Prelude.{Box, box_value}
use Rattle.std.specs.Box.{with_value}
use Rattle.std.specs.declared.alloc.Global.{Global}
use Rattle.std.proofs.lemmas.List.{length-map, map-set, get_or-map}
use Rattle.std.proofs.lemmas.Option.{get_or_from_slice_get}
use Rattle.mem_rules.specs.declared.kept.Kept.{Kept}
use Rattle.mem_rules.specs.Records.{IsPlaceOf, records_in, unboxed}
use Rattle.mem_rules.specs.State.{with_decision, writes_kept}
use Rattle.mem_rules.proofs.RecordLemmas.{is_there, decided_is}
use Rattle.mem_rules.proofs.records.Records.decide.Goals as goal

pub index_mut-requires : goal.index_mut-requires
index_mut-requires c =
    let kept = records_in c.args.self.now in
    let at = c.place_of-at.result in
    let place = subst (λ (bs : List (Box Kept Global)). IsPlaceOf (unboxed bs) c.args.id at) c.as_slice.ensures.value c.place_of-at.ensures.place in
    let there = is_there c.args.id kept at c.requires.ascending place c.requires.known in
    omega (arith, there.below, length-map c.args.self.now.0.items box_value, c.args.self.now.0.ok)

pub returns-clause-decided : goal.returns-clause-decided
returns-clause-decided c =
    let kept = records_in c.args.self.now in
    let at = c.place_of-at.result in
    let place = subst (λ (bs : List (Box Kept Global)). IsPlaceOf (unboxed bs) c.args.id at) c.as_slice.ensures.value c.place_of-at.ensures.place in
    let boxes = c.args.self.now.0.items in
    let there = is_there c.args.id kept at c.requires.ascending place c.requires.known in
    let below : at < length boxes = omega (arith, there.below, length-map boxes box_value) in
    let own : c.deref_mut.result.now ≡ there.record_ =
    c.deref_mut.ensures.value ∙ ap box_value c.index_mut.ensures.value ∙ sym (get_or-map box_value boxes at _ _ below)
    ∙ get_or_from_slice_get kept at there.record_ c.deref_mut.result.now there.there in
    map-set box_value boxes at (with_value c.index_mut.result.now c.decide.new.self)
    ∙ ap (λ (k : Kept). set kept at k) (c.decide.ensures.decided ∙ ap (with_decision c.args.commit) own)
    ∙ sym (decided_is c.args.id c.args.commit there.record_ kept at c.requires.ascending place there.there there.same)

pub returns-clause-writes : goal.returns-clause-writes
returns-clause-writes c =
    let kept = records_in c.args.self.now in
    let at = c.place_of-at.result in
    let place = subst (λ (bs : List (Box Kept Global)). IsPlaceOf (unboxed bs) c.args.id at) c.as_slice.ensures.value c.place_of-at.ensures.place in
    let boxes = c.args.self.now.0.items in
    let there = is_there c.args.id kept at c.requires.ascending place c.requires.known in
    let below : at < length boxes = omega (arith, there.below, length-map boxes box_value) in
    let own : c.deref_mut.result.now ≡ there.record_ =
    c.deref_mut.ensures.value ∙ ap box_value c.index_mut.ensures.value ∙ sym (get_or-map box_value boxes at _ _ below)
    ∙ get_or_from_slice_get kept at there.record_ c.deref_mut.result.now there.there in
    c.decide.ensures.writes ∙ ap (λ (k : Kept). k.writes) own ∙ sym (ap writes_kept there.found)
