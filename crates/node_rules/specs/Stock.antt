-- What a call may use without asking a memory node: its work set and the cache.
use Rattle.std.specs.Prelude.{ℕ, zero, suc, ◌+◌, Bool, List, [], ◌∷◌, length, slice_get, slice_set, replicate, Option, Some, None, is_some, unwrap_or, option_map, option_and_then}
use Rattle.std.specs.Option.{option_map_or}
use Rattle.fs_rules.specs.declared.geometry.Geometry.{Geometry}
use Rattle.node_cache.specs.declared.entry.Entry.{Entry}
use Rattle.node_cache.specs.declared.held.Held.{Held}
use Rattle.node_cache.specs.declared.want.Want.{Want}
use Rattle.node_cache.specs.declared.want.Want.TheVariants as want
use Rattle.node_cache.specs.Cached.{Cached, held_of, but_for}
use Rattle.plan_rules.specs.Fetched.{put_entry, with_maps}
use Rattle.plan_rules.specs.Orders.{wanted}
use Rattle.node_rules.specs.declared.arrival.Arrival.{Arrival}

pub record Stock : Type 0 where
  pub held : Held
  pub cache : Cached

-- nothing is held, and nothing is cached
abbrev pub empty_held : Geometry → Held
empty_held g = record { geometry = g; entries = []; maps = replicate g.memories None }

abbrev pub empty_cache : Cached
empty_cache = record { files = []; maps = replicate 8 None }

-- the part that an arrival wants next
abbrev pub wanted_by : Arrival → Held → Option Want
wanted_by a held = wanted held a.id a.call a.cred

-- the map of a memory node that the cache has
abbrev pub map_in : Cached → ℕ → Option (List ℕ)
map_in cache m = unwrap_or (slice_get cache.maps m) None

-- whether the cache has something of what a want is for: of a file, or a map
abbrev pub is_cached : Cached → Want → Bool
is_cached cache (want.Inode n) = is_some (held_of n cache.files)
is_cached cache (want.Chain n k) = is_some (held_of n cache.files)
is_cached cache (want.Slots n g) = is_some (held_of n cache.files)
is_cached cache (want.Map m) = is_some (map_in cache m)

-- an entry, or a map, goes from the cache into the work set
abbrev pub with_entry : Held → Entry → Held
with_entry held e = record held { entries = put_entry e held.entries }

abbrev pub with_file : Stock → ℕ → Entry → Stock
with_file s n e = record { held = with_entry s.held e; cache = record s.cache { files = but_for n s.cache.files } }

abbrev pub with_map : Stock → ℕ → List ℕ → Stock
with_map s m page = record { held = with_maps s.held m page; cache = record s.cache { maps = slice_set s.cache.maps m None } }

-- what is wanted goes from the cache into the work set, if it is there. Chaining blocks and slots go with the record of their
-- file, in one entry
abbrev pub moved : Stock → Want → Option Stock
moved s (want.Inode n) = option_map (with_file s n) (held_of n s.cache.files)
moved s (want.Chain n k) = None
moved s (want.Slots n g) = None
moved s (want.Map m) = option_map (with_map s m) (map_in s.cache m)

-- how much there is to be moved
abbrev pub pages : List (Option (List ℕ)) → ℕ
pages [] = 0
pages (None ∷ maps) = pages maps
pages (Some page ∷ maps) = suc (pages maps)

abbrev pub parts : Cached → ℕ
parts cache = length cache.files + pages cache.maps

-- so many times what is wanted next is moved, while the cache has it
unfoldable pub gathered_in : ℕ → Arrival → Stock → Stock
gathered_in zero a s = s
gathered_in (suc k) a s = option_map_or (gathered_in k a) (option_and_then (moved s) (wanted_by a s.held)) s

-- all that is wanted and cached was moved: with each move the cache has one part less
abbrev pub gathered : Arrival → Stock → Stock
gathered a s = gathered_in (parts s.cache) a s
