-- What holds of all logs and all contents.
use Rattle.std.specs.Prelude.{◌≡◌, ℕ, List}
use Rattle.disk_model.specs.Crash.{Content}
use Rattle.disk_model.specs.LogBytes.{StandsFor, IsDamaged}
use Rattle.gate_log.specs.Boot.{HasBoot}

-- a log has one list of entries
abbrev pub LogsHaveOneList : Type 0
LogsHaveOneList = (content : Content) (base : ℕ) (entries others : List (List ℕ))
    → StandsFor content base entries → StandsFor content base others → entries ≡ others

-- a log with a damaged gate has none
abbrev pub DamagedLogsHaveNone : Type 0
DamagedLogsHaveNone = (content : Content) (base at : ℕ) (entries : List (List ℕ))
    → IsDamaged content base at → StandsFor content base entries → ⊥

-- a disk has one boot number
abbrev pub DisksHaveOneBoot : Type 0
DisksHaveOneBoot = (content : Content) (boot other : ℕ) → HasBoot content boot → HasBoot content other → boot ≡ other
