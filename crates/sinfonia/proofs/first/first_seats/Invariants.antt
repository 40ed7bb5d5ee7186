use Rattle.std.proofs.Common.{◌≡◌}
use Rattle.cluster_seats.specs.Seats.{nodes_in}
use Rattle.sinfonia.specs.First.{first_machines}
use Rattle.sinfonia.proofs.first.first_seats.Given as goal

-- those that were pushed are the first ones
abbrev pub invariant-loop-n : goal.invariant-loop-n
invariant-loop-n l = nodes_in l.seats ≡ first_machines l.n
