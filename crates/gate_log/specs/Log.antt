-- What a log shows, and what it stands for.
use Rattle.std.specs.Prelude.{◌≡◌, ℕ, Bool, false, List, length}
use Rattle.disk_model.specs.Calls.{IsReady}
use Rattle.disk_model.specs.Crash.{History}
use Rattle.disk_model.specs.Health.{Health}
use Rattle.disk_model.specs.LogBytes.{log_bytes, StandsFor}
use Rattle.gate_log.specs.declared.log.Log.{Log}

abbrev pub disk_of : {D : Type 0} → Log D → D
disk_of log = log.disk

-- the place of its first gate
abbrev pub base_of : {D : Type 0} → Log D → ℕ
base_of log = log.extent.base

-- how far from there the closed gate is
abbrev pub end_of : {D : Type 0} → Log D → ℕ
end_of log = log.extent.end

-- an append failed, and the log answers no other one
abbrev pub has_failed : {D : Type 0} → Log D → Bool
has_failed log = log.failed

-- the disk may be used, with nothing pending, and the log has these entries, and may be appended to
pub record IsLog {D : Type 0} (tells : D → Type 0) (history : D → History) (health : D → Health)
    (log : Log D) (entries : List (List ℕ)) : Type 0 where
  pub ready : IsReady tells history health log.disk
  pub fine : log.failed ≡ false
  pub stands : StandsFor (history log.disk).now.content log.extent.base entries
  pub ends : log.extent.end ≡ length (log_bytes entries)
