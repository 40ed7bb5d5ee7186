-- What becomes of the coordinators of a cluster.
use Rattle.std.specs.Prelude.{◌≡◌, ℕ, false, List, slice_get, slice_set, Some}
use Rattle.tx_coord.specs.declared.outgoing.Outgoing.{Outgoing}
use Rattle.tx_coord.specs.State.{State, Machine}
use Rattle.tx_coord.specs.Rules.{Step}
use Rattle.cluster_seats.specs.declared.seats.Seats as declared

-- the coordinators, by their numbers
abbrev pub nodes_in : declared.Seats → List Machine
nodes_in seats = seats.nodes.items

-- this one makes a step, and posts this; memory had not run out before
abbrev pub Steps : (State → Step) → ℕ → List Machine → List Machine → List Outgoing → Type 0
Steps does n old now posts = (c : Machine) → slice_get old n ≡ Some c
    → (c.is_spent ≡ false) × (posts ≡ (does c.state).posts) × (now ≡ slice_set old n (record { state = (does c.state).now; is_spent = false }))

-- this one becomes so, and posts nothing
abbrev pub Becomes : (State → State) → ℕ → List Machine → List Machine → Type 0
Becomes does n old now = (c : Machine) → slice_get old n ≡ Some c → now ≡ slice_set old n (record c { state = does c.state })
