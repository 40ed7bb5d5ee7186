-- What a simulated link has.
use Rattle.std.specs.Prelude.{List}
use Rattle.link_model.specs.declared.place.Place.{Place}
use Rattle.link_model.specs.declared.sim_link.SimLink.{SimLink}

-- the messages that were posted on it, oldest first
abbrev pub places_in : SimLink → List Place
places_in l = l.places.items
