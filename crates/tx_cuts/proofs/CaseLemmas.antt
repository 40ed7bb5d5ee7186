-- The cases, by computing.
use Rattle.std.proofs.Common.{refl}
use Rattle.tx_cuts.specs.Cases.{CutsGoOn, BackupsEnd}

pub cuts_go_on : CutsGoOn
cuts_go_on = record { unmade = refl; again = refl; held_again = refl; still = refl; dropped = refl; sent = refl; idle = refl; gone = refl; locked = refl; older = refl; other = refl; lost = refl; booted = refl; stopped = refl }

pub backups_end : BackupsEnd
backups_end = record {
  locked = refl;
  past = refl;
  none = refl;
  given_up = refl;
  older_locked = refl;
  older_none = refl;
  other_node = refl;
  other_place = refl;
  short = refl;
  next = refl;
  still = refl;
  orphan = refl;
  idle = refl;
  again = refl;
  released = refl;
  kept = refl;
  drops = refl;
  listed = refl;
  unlisted = refl;
  piece = refl;
  last_piece = refl;
}
