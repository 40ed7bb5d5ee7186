-- Why a log refuses.
use Rattle.std.specs.Prelude.{ℕ}
use Rattle.gate_log.specs.declared.log_fault.LogFault.{LogFault}
use Rattle.gate_log.specs.declared.log_fault.LogFault.TheVariants.{Failed, Full, Damaged, NoMemory}

-- why a log was not read: the disk failed, or no call failed, and a gate is damaged or there was no memory; reading is
-- never full
abbrev pub IsLoadFault : LogFault → Type 0 → Type 0 → (ℕ → Type 0) → Type 0
IsLoadFault Failed fell passed damage = fell
IsLoadFault Full fell passed damage = ⊥
IsLoadFault (Damaged at) fell passed damage = passed × damage at
IsLoadFault NoMemory fell passed damage = passed

-- why an entry was not appended: no gate is looked at
abbrev pub IsAppendFault : LogFault → Type 0
IsAppendFault Failed = Unit {0}
IsAppendFault Full = Unit {0}
IsAppendFault (Damaged at) = ⊥
IsAppendFault NoMemory = Unit {0}
