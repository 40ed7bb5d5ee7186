-- What a cache keeps.
use Rattle.std.specs.Prelude.{◌≡◌, ℕ, ◌≤◌, nat_eq, List, [], ◌∷◌, map, take, find, length, slice_get, Option, Some, None, if◌then◌else◌}
use Rattle.std.specs.List.{IsDistinct}
use Rattle.lru.specs.LruCache.{LruCache}
use Rattle.node_cache.specs.declared.entry.Entry.{Entry}

-- the entries, the one that was used last first; and a place for each memory node, with its map where that is held
pub record Cached : Type 0 where
  pub files : List Entry
  pub maps : List (Option (List ℕ))

-- the entry of a file
abbrev pub held_of : ℕ → List Entry → Option Entry
held_of number files = find (λ e. nat_eq number e.number) files

-- the entries without that of a file
unfoldable pub but_for : ℕ → List Entry → List Entry
but_for number [] = []
but_for number (e ∷ files) = if nat_eq number e.number then files else e ∷ but_for number files

-- the entries once one was put: it is first, and of the others those 63 that were used last are kept
abbrev pub put_first : Entry → List Entry → List Entry
put_first e files = e ∷ take 63 (but_for e.number files)

-- the entry that leaves then: that of the same file, else the last of 64
abbrev pub or_last : Option Entry → Option Entry → Option Entry
or_last (Some e) last = Some e
or_last None last = last

abbrev pub pushed_out : Entry → List Entry → Option Entry
pushed_out e files = or_last (held_of e.number files) (slice_get files 63)

-- there are 64 entries at most, and no two are of one file
pub record IsBounded (files : List Entry) : Type 0 where
  pub few : length files ≤ 64
  pub apart : IsDistinct nat_eq (map (λ e. e.number) files)

-- how a cache keeps them: 64 entries at most, each under the number of its file, and eight places for maps
pub record IsKept (files : LruCache ℕ Entry) (maps : List (Option (List ℕ))) : Type 0 where
  pub keyed : map (λ e. e.0) files.entries ≡ map (λ e. e.1.number) files.entries
  pub cap : files.cap ≡ 64
  pub few : length files.entries ≤ 64
  pub places : length maps ≡ 8
