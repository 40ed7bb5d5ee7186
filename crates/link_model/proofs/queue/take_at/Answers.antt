use Rattle.std.proofs.Common.{Option, ap, ◌∙◌}
use Rattle.link_model.specs.declared.place.Place.{Place}
use Rattle.link_model.specs.Slots.{changed_at}
use Rattle.link_model.specs.SlotLemmas.{set_is}
use Rattle.link_model.proofs.queue.take_at.Goals as goal

pub returns-clause-slots : goal.returns-clause-slots
returns-clause-slots c =
    set_is c.args.slots.now.items c.args.index c.take.new.self
    ∙ ap (λ (s : Option Place). changed_at c.args.slots.now.items c.args.index s) c.take.ensures.after
