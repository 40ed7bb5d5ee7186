-- What a local link has.
use Rattle.std.specs.Prelude.{List, Option}
use Rattle.mini_tx.specs.declared.posted.Posted.{Posted}
use Rattle.link_model.specs.declared.place.Place.{Place}
use Rattle.link_model.specs.declared.local_link.LocalLink.{LocalLink}
use Rattle.link_model.specs.Links.{Shown}
use Rattle.link_model.specs.Slots.{AreOf, shown_behind}

-- the messages that are left, oldest first
abbrev pub slots_in : LocalLink → List (Option Place)
slots_in l = l.slots.items

abbrev pub shown_in : LocalLink → Shown
shown_in l = shown_behind l.gone l.slots.items

-- it stands for these messages: all that was ever posted on it
abbrev pub stands_for : LocalLink → List Posted → Type 0
stands_for l posted = AreOf posted l.gone (slots_in l)
