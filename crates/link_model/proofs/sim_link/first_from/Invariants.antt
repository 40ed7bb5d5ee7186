use Rattle.std.proofs.Common.{◌≡◌, ◌<◌, ◌≤◌, ℕ, length, slice_get, Some, false}
use Rattle.link_model.specs.declared.place.Place.{Place as PlaceOf}
use Rattle.link_model.proofs.sim_link.first_from.Given as goal

-- no place before the index waits
abbrev pub invariant-loop-index : goal.invariant-loop-index
invariant-loop-index l = (l.index ≤ length l.places) × ((i : ℕ) (p : PlaceOf) → i < l.index → slice_get l.places i ≡ Some p → p.waits ≡ false)
