-- The names so far are each none of those before it.
use Rattle.std.proofs.Common.{ℕ, ◌<◌}
use Rattle.fs_good.specs.Places.{IsFirst}
use Rattle.fs_good.proofs.slots.are_apart.Given as goal

abbrev pub invariant-loop-index : goal.invariant-loop-index
invariant-loop-index l = (i : ℕ) → i < l.index → IsFirst l.slots i
