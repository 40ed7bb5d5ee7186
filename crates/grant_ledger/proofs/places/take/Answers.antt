use Rattle.std.proofs.Common.{List, sym, ap, subst, ◌∙◌}
use Rattle.grant_ledger.specs.declared.doubt.Doubt.{Doubt}
use Rattle.grant_ledger.specs.Doubts.{AreAscending, waits_of}
use Rattle.grant_ledger.proofs.PlaceLemmas.{ascending_removed, waits_removed}
use Rattle.grant_ledger.proofs.places.take.Goals as goal

pub returns-clause-ascending : goal.returns-clause-ascending
returns-clause-ascending c =
    subst AreAscending (sym c.remove.ensures.items) (ascending_removed c.args.doubts.now.items c.args.at c.requires.ascending)

pub returns-clause-others : goal.returns-clause-others
returns-clause-others c other =
    let there = c.requires.there in
    ap (λ (ds : List Doubt). waits_of ds other) c.remove.ensures.items
    ∙ waits_removed c.args.doubts.now.items c.args.at there.doubt c.args.id other c.requires.ascending there.there there.same
