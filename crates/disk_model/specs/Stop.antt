-- What a `Stop` shows.
use Rattle.std.specs.Prelude.{ℕ, ◌+◌, ◌&&◌, not, Option}
use Rattle.disk_model.specs.declared.stop.Stop.{Stop}
use Rattle.disk_model.specs.Crash.{History}
use Rattle.disk_model.specs.Health.{Health}

-- the disk that it passes calls on to
abbrev pub disk_below : {D : Type 0} → Stop D → D
disk_below stop = stop.disk

-- how many writes and syncs it passes on, where they are counted
abbrev pub left_of : {D : Type 0} → Stop D → Option ℕ
left_of stop = stop.left

-- as a disk it tells what the disk below does
abbrev pub stop_tells : {D : Type 0} → (D → Type 0) → Stop D → Type 0
stop_tells tells stop = tells stop.disk

abbrev pub stop_history : {D : Type 0} → (D → History) → Stop D → History
stop_history history stop = history stop.disk

-- its health is that of the disk below, with what it refused besides
abbrev pub stop_health : {D : Type 0} → (D → Health) → Stop D → Health
stop_health health stop = record {
  faults = (health stop.disk).faults + stop.refused;
  own_faults = (health stop.disk).faults;
  calls = (health stop.disk).calls;
  allows = stop.left;
  is_starved = (health stop.disk).is_starved;
  is_usable = (health stop.disk).is_usable && not stop.refusing;
  is_exact = (health stop.disk).is_exact;
}
