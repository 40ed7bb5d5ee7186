-- Whether an item lies within a flat memory.
use Rattle.std.specs.Prelude.{ℕ, ◌-◌, nat_le, Bool, false, ◌&&◌, length, slice_get}
use Rattle.std.specs.Option.{option_map_or}
use Rattle.mini_tx.specs.declared.item.Item.{Item}
use Rattle.mini_tx.specs.FlatMemory.{Flat}
use Rattle.mini_tx.specs.Minitransactions.{memory_of, place_of, bytes_of}

-- a memory node is there, and holds so many bytes from a place on
abbrev pub fits : Flat → ℕ → ℕ → ℕ → Bool
fits flat memory at len = option_map_or (λ image. nat_le at (length image) && nat_le len (length image - at)) (slice_get flat memory) false

abbrev pub is_within : Flat → Item → Bool
is_within flat i = fits flat (memory_of i) (place_of i) (bytes_of i)
