-- The logs of the memory nodes, and what they decide.
use Rattle.std.specs.Prelude.{◌≡◌, ℕ, ◌≤◌, ◌<◌, List, ◌⊎◌}
use Rattle.tx_rules.specs.Mini.{In, Setting, nodes_of}

-- why a vote is not Granted: a floor of its coordinator stands at this identifier, which is its own or above it; this
-- cut is held; the undecided record of this identifier is in the way; or the compare item at this place differs
pub data Reason : Type 0 where
  Forced : ℕ → Reason
  Held : ℕ → Reason
  Locked : ℕ → Reason
  Mismatch : ℕ → Reason

-- what one entry of a log says of an identifier: it was granted; it was refused, or forced to abort, and why; its
-- writes were applied; it was aborted; its record was forgotten. Where it has one participant, a grant is followed by
-- its commit
pub data Record : Type 0 where
  Grant : ℕ → Record
  Refuse : ℕ → Reason → Record
  Commit : ℕ → Record
  Abort : ℕ → Record
  Forget : ℕ → Record

-- an entry of the log of a memory node. The logs are kept as one list, newest entry first
pub data Entry : Type 0 where
  At : ℕ → Record → Entry

-- the identifier that a record names
abbrev pub named_in : Record → ℕ
named_in (Grant t) = t
named_in (Refuse t why) = t
named_in (Commit t) = t
named_in (Abort t) = t
named_in (Forget t) = t

-- the memory node has a Granted vote for the identifier in its log
abbrev pub IsGranted : List Entry → ℕ → ℕ → Type 0
IsGranted log m t = In (At m (Grant t)) log

-- it has voted on it with an entry, or was forced to abort it
abbrev pub IsCast : List Entry → ℕ → ℕ → Type 0
IsCast log m t = IsGranted log m t ⊎ ((why : Reason) × In (At m (Refuse t why)) log)

-- the floor of the identifier's coordinator at the memory node is the identifier or above
pub record IsPassed (s : Setting) (log : List Entry) (m t : ℕ) : Type 0 where
  pub by : ℕ
  pub cast : IsCast log m by
  pub same : s.coord by ≡ s.coord t
  pub above : t ≤ by

-- the floor of the identifier's coordinator at the memory node may be this one, above it
pub record IsBelow (s : Setting) (log : List Entry) (m t floor : ℕ) : Type 0 where
  pub cast : IsCast log m floor
  pub same : s.coord floor ≡ s.coord t
  pub above : t < floor

-- the memory node will never grant the identifier
pub record IsRefused (s : Setting) (log : List Entry) (m t : ℕ) : Type 0 where
  pub passed : IsPassed s log m t
  pub never : ¬ IsGranted log m t

-- its log has a decision on the identifier
abbrev pub IsDecided : List Entry → ℕ → ℕ → Type 0
IsDecided log m t = In (At m (Commit t)) log ⊎ In (At m (Abort t)) log

-- the record of the identifier is undecided at the memory node: it holds the locks of its cells
pub record IsOpen (log : List Entry) (m t : ℕ) : Type 0 where
  pub granted : IsGranted log m t
  pub undecided : ¬ IsDecided log m t

-- every participant has granted it
abbrev pub IsCommitted : Setting → List Entry → ℕ → Type 0
IsCommitted s log t = (m : ℕ) → In m (nodes_of s t) → IsGranted log m t

-- some participant has not granted it, and has its floor at it or above
pub record IsAborted (s : Setting) (log : List Entry) (t : ℕ) : Type 0 where
  pub node : ℕ
  pub participant : In node (nodes_of s t)
  pub refused : IsRefused s log node t

-- the memory node is through with it: it is decided there, or never granted
abbrev pub IsThrough : Setting → List Entry → ℕ → ℕ → Type 0
IsThrough s log m t = IsDecided log m t ⊎ IsRefused s log m t

-- every participant is through with it
abbrev pub IsOver : Setting → List Entry → ℕ → Type 0
IsOver s log t = (m : ℕ) → In m (nodes_of s t) → IsThrough s log m t
