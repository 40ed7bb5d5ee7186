-- What places show is what was posted.
use Rattle.std.proofs.Common.{◌≡◌, ℕ, zero, suc, true, false, List, [], ◌∷◌, length, Option, None, Some, refl, sym, ap, ◌∙◌}
use Rattle.std.specs.Prelude.{map, slice_get, option_map, IsSome}
use Rattle.std.specs.Option.{option_map_or}
use Rattle.std.proofs.lemmas.List.{length-map}
use Rattle.mini_tx.specs.declared.posted.Posted.{Posted}
use Rattle.link_model.specs.declared.place.Place.{Place}
use Rattle.link_model.specs.Links.{numbered, IsOf}
use Rattle.link_model.specs.Places.{place_of, posted_at, shown_by}

-- the message of a place
abbrev posted_of : Place → Posted
posted_of p = p.posted

got_of : (places : List Place) (i : ℕ) → slice_get (map posted_of places) i ≡ option_map posted_of (slice_get places i)
got_of [] i = refl
got_of (p ∷ places) zero = refl
got_of (p ∷ places) (suc i) = got_of places i

known_of : (places : List Place) (k : ℕ) → numbered (map posted_of places) k ≡ posted_at places k
known_of places zero = refl
known_of places (suc i) = got_of places i

waits_there : (o : Option Place) → option_map_or (λ (p : Place). p.waits) o false ≡ true → IsSome (option_map (λ (p : Place). p.posted) o)
waits_there None waits = absurd cc
waits_there (Some p) waits = refl

pub places_are_of : (places : List Place) (posted : List Posted) → posted ≡ map (λ (p : Place). p.posted) places → IsOf posted (shown_by places)
places_are_of places posted is = record {
  count = sym (ap (λ (ps : List Posted). length ps) is ∙ length-map places (λ (p : Place). p.posted));
  known = λ k p there. ap (λ (ps : List Posted). numbered ps k) is ∙ known_of places k ∙ there;
  waiting = λ k waits. waits_there (place_of places k) waits;
}
