-- The slots so far are empty or have names.
use Rattle.fs_rules.specs.Good.{IsName}
use Rattle.fs_good.specs.Places.{Below}
use Rattle.fs_good.proofs.slots.have_names.Given as goal

abbrev pub invariant-loop-slot : goal.invariant-loop-slot
invariant-loop-slot l = Below (λ e. IsName e.name) l.slots l.slot-index
