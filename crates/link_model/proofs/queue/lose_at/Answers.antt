use Rattle.std.proofs.Common.{Option, sym, ap}
use Rattle.std.specs.Prelude.{option_map}
use Rattle.link_model.specs.declared.place.Place.{Place}
use Rattle.link_model.specs.Places.{over}
use Rattle.link_model.specs.SlotLemmas.{lost_is, none_over}
use Rattle.link_model.proofs.queue.lose_at.Goals as goal

pub returns-in-Some : goal.returns-in-Some
returns-in-Some c = lost_is c.args.slots.now.items c.args.index c.index_mut.result.now _ c.index_mut.ensures.value c.requires
    (sym (ap (λ (s : Option Place). option_map over s) c.in-Some.is))

pub returns-in_default : goal.returns-in_default
returns-in_default c = lost_is c.args.slots.now.items c.args.index c.index_mut.result.now _ c.index_mut.ensures.value c.requires
    (none_over c.index_mut.result.now c.in_default.not-Some)
