-- The worked cases.
use Rattle.std.proofs.Common.{refl}
use Rattle.tx_actors.specs.Cases.{CoordinatorFinishes, CoordinatorRepeats, ManagerFinishes, LimitsAreKept}
use Rattle.tx_actors.specs.Rows.{TwoPhases, Orphan, Lone}

pub two_phases : TwoPhases
two_phases = record { locked = refl; point = refl; outcomes = refl; forced = refl; again = refl; log = refl }

pub orphan : Orphan
orphan = record { points = refl; first = refl; second = refl; none = refl; none_too = refl }

pub lone_case : Lone
lone_case = record { looked = refl; granted = refl; again = refl; mismatch = refl; forced = refl; log = refl; image = refl; outcomes = refl }

pub coordinator_finishes : CoordinatorFinishes
coordinator_finishes = record { decided = refl; outcome = refl; finishing = refl; waits = refl; forgets = refl; finished = refl; log = refl; kept = refl }

pub coordinator_repeats : CoordinatorRepeats
coordinator_repeats = record { prepare = refl; next = refl; posted = refl; running = refl; outcomes = refl; decision = refl; lost = refl; once = refl }

pub manager_finishes : ManagerFinishes
manager_finishes = record {
  kept = refl;
  once = refl;
  asks = refl;
  decides = refl;
  again = refl;
  early_done = refl;
  late_abort = refl;
  abort = refl;
  stranger = refl;
  one_done = refl;
  both_done = refl;
  ascending = refl;
  crash = refl;
}

pub limits_are_kept : LimitsAreKept
limits_are_kept = record { finishing = refl; taken = refl; full = refl; kept = refl }
