use Rattle.std.proofs.Common.{◌≡◌, ◌<◌, Bool, cond, length, Some, None, sym, ap, ◌∙◌, arith}
use Rattle.std.specs.Prelude.{get_or, box_value}
use Rattle.std.proofs.lemmas.List.{length-map, get_or-map}
use Rattle.mem_rules.specs.Records.{unboxed}
use Rattle.mem_rules.proofs.RecordLemmas.{none_past, found_at}
use Rattle.mem_rules.proofs.records.record_of.Goals as goal

pub returns-then-at-kept : goal.returns-then-at-kept
returns-then-at-kept c =
    sym (none_past c.args.id (unboxed c.args.kept.now) c.place_of-at.result c.requires c.place_of-at.ensures.place (omega (arith, length-map c.args.kept.now box_value)))

pub returns-then-are_equal : goal.returns-then-are_equal
returns-then-are_equal c =
    let boxes = c.args.kept.now in
    let k = c.deref-record.result.now in
    let below : c.place_of-at.result < length boxes = omega (arith, c.place_of-at.ensures.bound, length-map boxes box_value, c.if-at-kept.false) in
    let is : k ≡ get_or (unboxed boxes) c.place_of-at.result k =
    c.deref-record.ensures ∙ ap box_value c.index-kept-at.is ∙ sym (get_or-map box_value boxes c.place_of-at.result _ k below) in
    sym (found_at c.args.id (unboxed boxes) c.place_of-at.result k c.requires c.place_of-at.ensures.place (omega (arith, below, length-map boxes box_value)) is
    ∙ ap (λ (b : Bool). cond b (Some k) None) (sym c.are_equal.ensures ∙ c.if-are_equal.true))

pub returns-else-are_equal : goal.returns-else-are_equal
returns-else-are_equal c =
    let boxes = c.args.kept.now in
    let k = c.deref-record.result.now in
    let below : c.place_of-at.result < length boxes = omega (arith, c.place_of-at.ensures.bound, length-map boxes box_value, c.if-at-kept.false) in
    let is : k ≡ get_or (unboxed boxes) c.place_of-at.result k =
    c.deref-record.ensures ∙ ap box_value c.index-kept-at.is ∙ sym (get_or-map box_value boxes c.place_of-at.result _ k below) in
    sym (found_at c.args.id (unboxed boxes) c.place_of-at.result k c.requires c.place_of-at.ensures.place (omega (arith, below, length-map boxes box_value)) is
    ∙ ap (λ (b : Bool). cond b (Some k) None) (sym c.are_equal.ensures ∙ c.if-are_equal.false))
