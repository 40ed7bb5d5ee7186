use Rattle.std.proofs.lemmas.Result.{on_ok_weaker}
use Rattle.plan_content.proofs.ListingLemmas.{group_offered, no_groups}
use Rattle.plan_content.proofs.listing.+offer_groups.Goals as goal

pub returns-then-left-eq0 : goal.returns-then-left-eq0
returns-then-left-eq0 t c =
    no_groups c.args.held.now c.args.number c.args.group c.args.run.now c.args.behind c.args.first c.args.left c.if-left-eq0.true

pub returns : goal.returns
returns t c =
    let held = c.args.held.now in
    let n = c.args.number in
    on_ok_weaker c.offer_groups.result
    (group_offered held n c.args.group c.args.run.now c.offer_slots.new.run c.offer_groups.new.run c.args.behind c.args.first c.in_ok-next.next c.args.left c.slots_in-slots.result.now
    c.if-left-eq0.false c.slots_in-slots.ensures ((c.in_ok-next.ensures {u = tt}).offered) ((c.in_ok-next.ensures {u = tt}).next))
    c.offer_groups.ensures
