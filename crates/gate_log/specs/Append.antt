-- What an append writes, and what a crash leaves of it.
use Rattle.std.specs.Prelude.{◌≡◌, ◌⊎◌, ℕ, ◌+◌, ◌^◌, ◌<◌, ◌≤◌, List, [], ◌∷◌, ◌++◌, length}
use Rattle.sfs_xdr.specs.Items.{word}
use Rattle.disk_model.specs.Crash.{Content, Snapshot, MayLeave, put, touched, settled}
use Rattle.disk_model.specs.LogBytes.{StandsFor}

-- the log has the entries, or those and the new one
abbrev pub IsBeforeOrAfter : ℕ → List (List ℕ) → List ℕ → Content → Type 0
IsBeforeOrAfter base entries entry image = StandsFor image base entries ⊎ StandsFor image base (entries ++ entry ∷ [])

-- before the log and behind its 2^32 bytes all bytes are the same
abbrev pub IsSameOutside : ℕ → Content → Content → Type 0
IsSameOutside base content image = (place : ℕ) → (place < base) ⊎ (base + 2 ^ 32 ≤ place) → image place ≡ content place

-- what a crash leaves of an append
pub record IsAppending (base : ℕ) (entries : List (List ℕ)) (entry : List ℕ) (content image : Content) : Type 0 where
  pub log : IsBeforeOrAfter base entries entry image
  pub rest : IsSameOutside base content image

-- what is written behind the gate: the length, the entry and a closed gate
abbrev pub sealed : List ℕ → List ℕ
sealed entry = word (length entry) ++ entry ++ 0 ∷ []

-- what a crash may leave while these bytes are written behind a gate, and then the gate is opened
abbrev pub Opens : Snapshot → ℕ → List ℕ → Content → Type 0
Opens before gate bytes image =
    MayLeave (touched before (gate + 1) (length bytes)) image
    ⊎ MayLeave (touched (settled (put before.content (gate + 1) bytes)) gate 1) image
