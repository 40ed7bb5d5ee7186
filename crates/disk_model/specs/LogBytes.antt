-- The bytes of a log: each entry behind a gate of 1 and its length. Any other gate is the end.
use Rattle.std.specs.Prelude.{◌≡◌, ◌≢◌, ℕ, ◌+◌, ◌^◌, ◌<◌, ◌≤◌, List, [], ◌∷◌, ◌++◌, length}
use Rattle.sfs_xdr.specs.Items.{word}
use Rattle.disk_model.specs.Crash.{Content, Holds}

-- an entry with its gate and its length
abbrev pub entry_bytes : List ℕ → List ℕ
entry_bytes entry = 1 ∷ (word (length entry) ++ entry)

-- these entries, one behind another
abbrev pub log_bytes : List (List ℕ) → List ℕ
log_bytes [] = []
log_bytes (entry ∷ entries) = entry_bytes entry ++ log_bytes entries

-- the log from a place on has these entries: their bytes stand there, a gate that is not 1 behind them, and
-- that gate lies below 2^32 bytes from the start
pub record StandsFor (content : Content) (base : ℕ) (entries : List (List ℕ)) : Type 0 where
  pub bytes : Holds content base (log_bytes entries)
  pub closed : content (base + length (log_bytes entries)) ≢ 1
  pub within : length (log_bytes entries) < 2 ^ 32

-- a gate of 1, this far from the start, whose entry ends so far that the gate behind it would lie at 2^32 bytes
-- from the start or past them; where the length itself lies past them it is not looked at
pub record IsBadGate (content : Content) (gate distance : ℕ) : Type 0 where
  pub opened : content gate ≡ 1
  pub size : ℕ
  pub fits : size < 2 ^ 32
  pub spelled : distance + 5 ≤ 2 ^ 32 → Holds content (gate + 1) (word size)
  pub past : 2 ^ 32 ≤ distance + 5 + size

-- such a gate stands behind some entries, at this place
pub record IsDamaged (content : Content) (base at : ℕ) : Type 0 where
  pub entries : List (List ℕ)
  pub bytes : Holds content base (log_bytes entries)
  pub there : at ≡ base + length (log_bytes entries)
  pub within : length (log_bytes entries) < 2 ^ 32
  pub bad : IsBadGate content at (length (log_bytes entries))
