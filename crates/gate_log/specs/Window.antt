-- A piece of a disk that was read.
use Rattle.std.specs.Prelude.{ℕ, ◌-◌, nat_le, List, [], drop, if◌then◌else◌}
use Rattle.disk_model.specs.Crash.{Content, Holds}
use Rattle.gate_log.specs.declared.window.Window.{Window}

-- what was read from a place on
abbrev pub seen_from : Window → ℕ → List ℕ
seen_from window place = if nat_le window.at place then drop (place - window.at) window.bytes.items else []

-- the disk still holds what was read
abbrev pub IsCurrent : Content → Window → Type 0
IsCurrent content window = Holds content window.at window.bytes.items
