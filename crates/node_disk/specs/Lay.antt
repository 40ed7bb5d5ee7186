-- A disk that is not formatted, and what is written beside its mark.
use Rattle.std.specs.Prelude.{◌≡◌, ◌⊎◌, ◌≤◌, ◌+◌, ◌^◌, ℕ, false, List, [], ◌∷◌}
use Rattle.disk_model.specs.Crash.{Content, Snapshot, is_pending, put}

-- the mark is 0, and is so after a crash
pub record IsUnmarked (snapshot : Snapshot) : Type 0 where
  pub clear : is_pending snapshot.pending 128 ≡ false
  pub zero : snapshot.content 128 ≡ 0

-- a range without the mark
abbrev pub IsBeside : ℕ → ℕ → Type 0
IsBeside at n = (at + n ≤ 128) ⊎ (129 ≤ at)

-- the front of the first page, the image, and a log without entries
abbrev pub is_laid : Content → List ℕ → List ℕ → Content
is_laid content front image = put (put (put content 0 front) 4096 image) (2 ^ 32) (0 ∷ [])
