-- What stands at a gate, and what reading it does to the disk.
use Rattle.std.specs.Prelude.{◌≡◌, ◌≢◌, ℕ, ◌+◌, ◌^◌, ◌<◌, List, length, Option, MatchOption, Result, OnOk, IfErr}
use Rattle.sfs_xdr.specs.Items.{word}
use Rattle.disk_model.specs.Crash.{Content, History, Holds}
use Rattle.disk_model.specs.Health.{Health, Fell, Passed, Speaks}
use Rattle.disk_model.specs.LogBytes.{entry_bytes, IsBadGate}
use Rattle.gate_log.specs.declared.gate.Gate.{Gate}
use Rattle.gate_log.specs.declared.gate.Gate.TheVariants.{Closed, Open, Damaged}
use Rattle.gate_log.specs.declared.log_fault.LogFault.{LogFault}
use Rattle.gate_log.specs.Fault.{IsLoadFault}

-- what stands at a gate this far from the start: it is closed, or open with this length behind it, or damaged
abbrev pub StandsAt : Content → ℕ → ℕ → Gate → Type 0
StandsAt content gate distance Closed = content gate ≢ 1
StandsAt content gate distance (Open size) = (content gate ≡ 1) × Holds content (gate + 1) (word size)
StandsAt content gate distance Damaged = IsBadGate content gate distance

-- the gate behind the entry lies below the limit
abbrev pub EndsBelow : ℕ → Gate → Type 0
EndsBelow distance Closed = Unit {0}
EndsBelow distance (Open size) = distance + 5 + size < 2 ^ 32
EndsBelow distance Damaged = Unit {0}

-- the next entry stands at this gate, or it is closed
abbrev pub IsNextEntry : Content → ℕ → Option (List ℕ) → Type 0
IsNextEntry content gate next = MatchOption next (content gate ≢ 1) (λ entry. Holds content gate (entry_bytes entry))

-- the gate behind the next entry lies below the limit
abbrev pub EntryEndsBelow : ℕ → Option (List ℕ) → Type 0
EntryEndsBelow distance next = MatchOption next (Unit {0}) (λ entry. distance + 5 + length entry < 2 ^ 32)

-- what a function that reads makes of the disk: its bytes stay, and no count rises but where the disk failed
pub record Reads {D X : Type 0} (tells : D → Type 0) (history : D → History) (health : D → Health)
    (old new : D) (damage : ℕ → Type 0) (result : Result X LogFault) : Type 0 where
  pub still : Speaks tells health old → tells new
  pub kept : Speaks tells health old → history new ≡ history old
  pub passed : OnOk result (Passed 0 (health old) (health new))
  pub refused : IfErr result (λ fault.
      IsLoadFault fault (Fell 0 (health old) (health new)) (Passed 0 (health old) (health new)) damage)
