-- Handles, by which clients name files: they are spelled as the records of an image have it.
use Rattle.std.specs.Prelude.{ℕ, List, take, drop}
use Rattle.std.specs.Int.{w32, from_be_bytes}
pub use Rattle.fs_layout.specs.Handles.{handle}

-- the number that stands at the place of the file's number
abbrev pub number_in : List ℕ → ℕ
number_in bytes = from_be_bytes w32 (take 4 (drop 4 bytes))
