use Rattle.std.proofs.Common.{◌≡◌, ◌<◌, ◌≤◌, ℕ, length, Some, false}
use Rattle.link_model.specs.declared.place.Place.{Place as PlaceOf}
use Rattle.link_model.specs.Slots.{there_at}
use Rattle.link_model.proofs.queue.first_from.Given as goal

-- no slot before the index waits
abbrev pub invariant-loop-index : goal.invariant-loop-index
invariant-loop-index l = (l.index ≤ length l.slots.items) × ((i : ℕ) (p : PlaceOf) → i < l.index → there_at l.slots.items i ≡ Some p → p.waits ≡ false)
