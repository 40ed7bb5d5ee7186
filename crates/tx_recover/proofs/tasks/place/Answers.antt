use Rattle.std.proofs.Common.{◌≡◌, List, ap, ◌∙◌, arith}
use Rattle.std.specs.List.{insert}
use Rattle.tx_recover.specs.declared.work.Work.{Work}
use Rattle.tx_recover.specs.Rules.{place_in}
use Rattle.tx_recover.proofs.WorkLemmas.{place_below, placed_is}
use Rattle.tx_recover.proofs.tasks.place.Goals as goal

pub insert-requires : goal.insert-requires
insert-requires c =
    let low = place_below c.args.work c.deref.result.now in
    let is = c.place_in-at.ensures in
    let same = c.deref.ensures.len in
    omega (arith, low, is, same)

pub returns : goal.returns
returns c =
    let works = c.args.works.now.items in
    let is : c.place_in-at.result ≡ place_in c.args.work.id works =
    c.place_in-at.ensures ∙ ap (λ (ws : List Work). place_in c.args.work.id ws) c.deref.ensures.value in
    c.in_ok-insert.ensures.items ∙ ap (λ n. insert works n c.args.work) is ∙ placed_is c.args.work works
