use Rattle.std.proofs.Common.{◌≤◌, List, length, sym, ap, subst, ◌∙◌}
use Rattle.grant_ledger.specs.declared.doubt.Doubt.{Doubt}
use Rattle.grant_ledger.specs.Doubts.{AreAscending, IsPlaceOf, waits_of}
use Rattle.grant_ledger.proofs.PlaceLemmas.{ascending_inserted, waits_inserted}
use Rattle.grant_ledger.proofs.places.put.Goals as goal

pub returns-clause-ascending : goal.returns-clause-ascending
returns-clause-ascending c =
    let doubts = c.args.doubts.now.items in
    let at = c.place_of-at.result in
    let place = subst (λ (ds : List Doubt). IsPlaceOf ds c.args.doubt.id at) c.deref.ensures.value c.place_of-at.ensures.place in
    let bound : at ≤ length doubts = subst (λ (ds : List Doubt). at ≤ length ds) c.deref.ensures.value c.place_of-at.ensures.bound in
    subst AreAscending (sym c.in_ok-insert.ensures.items) (ascending_inserted doubts at c.args.doubt c.requires.ascending bound place c.requires.unknown)

pub returns-clause-entered : goal.returns-clause-entered
returns-clause-entered c other =
    let doubts = c.args.doubts.now.items in
    let at = c.place_of-at.result in
    let place = subst (λ (ds : List Doubt). IsPlaceOf ds c.args.doubt.id at) c.deref.ensures.value c.place_of-at.ensures.place in
    let bound : at ≤ length doubts = subst (λ (ds : List Doubt). at ≤ length ds) c.deref.ensures.value c.place_of-at.ensures.bound in
    ap (λ (ds : List Doubt). waits_of ds other) c.in_ok-insert.ensures.items ∙ waits_inserted doubts at c.args.doubt other bound place
