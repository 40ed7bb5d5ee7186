use Rattle.std.proofs.Common.{◌≡◌, ◌<◌, true, false, length, sym, subst, ◌∙◌, arith}
use Rattle.mini_tx.specs.Order.{is_same}
use Rattle.grant_ledger.specs.declared.doubt.Doubt.{Doubt}
use Rattle.grant_ledger.proofs.PlaceLemmas.{none_past, there_is, not_there}
use Rattle.grant_ledger.proofs.places.find.Goals as goal

pub returns-then-at-doubts-clause-none : goal.returns-then-at-doubts-clause-none
returns-then-at-doubts-clause-none c =
    none_past c.args.id c.args.doubts.now c.place_of-at.result c.requires c.place_of-at.ensures.place (omega arith)

pub returns-then-is_same-clause-some : goal.returns-then-is_same-clause-some
returns-then-is_same-clause-some c =
    let below : c.place_of-at.result < length c.args.doubts.now = omega (arith, c.place_of-at.ensures.bound, c.if-at-doubts.false) in
    there_is c.args.id c.args.doubts.now c.place_of-at.result c.index-doubts-at.result c.requires c.place_of-at.ensures.place below c.index-doubts-at.is
    (subst (λ (d : Doubt). is_same d.id c.args.id ≡ true) (sym c.index-doubts-at.is) (sym c.is_same.ensures ∙ c.if-is_same.true))

pub returns-else-is_same-clause-none : goal.returns-else-is_same-clause-none
returns-else-is_same-clause-none c =
    let below : c.place_of-at.result < length c.args.doubts.now = omega (arith, c.place_of-at.ensures.bound, c.if-at-doubts.false) in
    not_there c.args.id c.args.doubts.now c.place_of-at.result c.index-doubts-at.result c.requires c.place_of-at.ensures.place below c.index-doubts-at.is
    (subst (λ (d : Doubt). is_same d.id c.args.id ≡ false) (sym c.index-doubts-at.is) (sym c.is_same.ensures ∙ c.if-is_same.false))
