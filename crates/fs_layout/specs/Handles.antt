-- Handles, by which clients name files.
use Rattle.std.specs.Prelude.{◌≡◌, ℕ, List, ◌∷◌, replicate}
use Rattle.fs_layout.specs.Words.{AreWords, spelled}

-- the mark "SFS1", the file's number and generation, and zeros
unfoldable pub handle_words : ℕ → ℕ → List ℕ
handle_words number generation = 0x53465331 ∷ number ∷ generation ∷ replicate 5 0

-- the bytes of a handle
abbrev pub handle : ℕ → ℕ → List ℕ
handle number generation = spelled (handle_words number generation)

-- the bytes are the handle of the file with this number and generation
pub record SpellsHandle (number generation : ℕ) (bytes : List ℕ) : Type 0 where
  pub words : AreWords (handle_words number generation)
  pub bytes_are : bytes ≡ spelled (handle_words number generation)
