use Rattle.std.proofs.Common.{List, length, refl, sym, subst}
use Rattle.std.proofs.lemmas.Option.{slice_get_read}
use Rattle.link_model.specs.declared.place.Place.{Place}
use Rattle.link_model.specs.Places.{IsFirst}
use Rattle.link_model.specs.PassLemmas.{set_is, first_stays}
use Rattle.link_model.proofs.sim_link.pass_at.Goals as goal

pub returns-then-index-first-clause-places : goal.returns-then-index-first-clause-places
returns-then-index-first-clause-places c = set_is c.args.places.now.items c.args.index c.index_mut.result.now
    (slice_get_read c.args.places.now.items (length c.args.places.now.items) c.args.index c.index_mut.result.now refl c.requires.there c.index_mut.ensures.value)

pub returns-else-index-first-clause-places : goal.returns-else-index-first-clause-places
returns-else-index-first-clause-places c = set_is c.args.places.now.items c.args.index c.index_mut.result.now
    (slice_get_read c.args.places.now.items (length c.args.places.now.items) c.args.index c.index_mut.result.now refl c.requires.there c.index_mut.ensures.value)

pub returns-else-index-first-clause-first : goal.returns-else-index-first-clause-first
returns-else-index-first-clause-first c =
    subst (λ (ps : List Place). IsFirst ps c.args.first) (sym (set_is c.args.places.now.items c.args.index c.index_mut.result.now
    (slice_get_read c.args.places.now.items (length c.args.places.now.items) c.args.index c.index_mut.result.now refl c.requires.there c.index_mut.ensures.value)))
    (first_stays c.args.places.now.items c.args.first c.args.index c.requires.first c.if-index-first.false)
