-- The bytes that frames hold: those of a frame that is not there are 0.
use Rattle.std.specs.Prelude.{ℕ, ◌/◌, ◌%◌, List, Option, None, Some, slice_index}
use Rattle.std.specs.Ordering.{nat_cmp}
use Rattle.std.specs.BTreeMap.{is_at}
use Rattle.std.specs.Map.{lookup}
use Rattle.disk_model.specs.declared.frames.Frames.{Frames}
use Rattle.disk_model.specs.Crash.{Content}

-- a byte of a frame
abbrev pub byte_in : Option (List ℕ) → Content
byte_in None offset = 0
byte_in (Some frame) offset = slice_index frame offset

-- the frame of a number, if it is there
abbrev pub frame_at : List (ℕ × List ℕ) → ℕ → Option (List ℕ)
frame_at entries number = lookup (is_at (nat_cmp number)) entries

-- the byte at a place
abbrev pub byte_at : List (ℕ × List ℕ) → Content
byte_at entries place = byte_in (frame_at entries (place / 4096)) (place % 4096)

abbrev pub bytes_of : Frames → Content
bytes_of frames = byte_at frames.frames.entries
