-- The slots so far have other names.
use Rattle.std.proofs.Common.{◌≡◌}
use Rattle.fs_good.specs.Places.{Below}
use Rattle.fs_good.proofs.slots.are_others.Given as goal

abbrev pub invariant-loop-index : goal.invariant-loop-index
invariant-loop-index l = Below (λ e. e.name ≡ l.name → ⊥) l.slots l.index
