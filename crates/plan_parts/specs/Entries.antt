-- Entries at their places.
use Rattle.std.specs.Prelude.{ℕ, ◌==◌, Bool, false, List, slice_get}
use Rattle.std.specs.Option.{option_map_or}
use Rattle.node_cache.specs.declared.entry.Entry.{Entry}

-- whether the entry at a place has this number
abbrev pub is_number_at : ℕ → List Entry → ℕ → Bool
is_number_at n entries at = option_map_or (λ e. e.number == n) (slice_get entries at) false
