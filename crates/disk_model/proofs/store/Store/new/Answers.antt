use Rattle.std.proofs.Common.{refl}
use Rattle.disk_model.specs.Plan.{history_after}
use Rattle.disk_model.proofs.store.Store.new.Goals as goal

pub returns-clause-stands : goal.returns-clause-stands
unfolding history_after
returns-clause-stands c = rw (c.new-2.ensures.items, c.new-3.ensures.items) record { now = c.new.ensures; synced = c.new.ensures; pending = λ place. refl }
