-- The slots of a directory: its names, in order, with empty slots among them.
use Rattle.std.specs.Prelude.{ℕ, ◌+◌, ◌-◌, ◌*◌, ◌/◌, nat_lt, nat_le, min, Bool, false, if◌then◌else◌, List, [], ◌∷◌, ◌++◌, length, replicate, filter, find, position, slice_set, bytes_eq, codes, Option, Some, None, is_some, is_none, option_and_then, option_map}
use Rattle.std.specs.Option.{option_map_or, option_or}
use Rattle.std.specs.List.{list_any}
use Rattle.nfs_proto.specs.declared.dir_entry.DirEntry.{DirEntry}
use Rattle.fs_rules.specs.declared.entry.Entry.{Entry}

-- ---- the names

-- whether a slot has this name
abbrev pub has_name : List ℕ → Option Entry → Bool
has_name name None = false
has_name name (Some e) = bytes_eq name e.name

-- the slot that has a name
abbrev pub slot_of : List (Option Entry) → List ℕ → Option ℕ
slot_of slots name = position (has_name name) slots

-- the file that a name names
abbrev pub file_named : List (Option Entry) → List ℕ → Option ℕ
file_named slots name = option_and_then (λ slot. option_map (λ e. e.file) slot) (find (has_name name) slots)

-- whether a slot is in use
abbrev pub is_in_use : List (Option Entry) → Bool
is_in_use slots = list_any is_some slots

-- ---- putting and taking names

-- the slot that a name gets: the one that it has, else the lowest empty one
abbrev pub slot_for : List (Option Entry) → List ℕ → Option ℕ
slot_for slots name = option_or (slot_of slots name) (position is_none slots)

-- the slots with one for this name: where there is none, 15 empty ones are added
abbrev pub with_room : List (Option Entry) → List ℕ → List (Option Entry)
with_room slots name = if is_some (slot_for slots name) then slots else slots ++ replicate 15 None

-- the slots after a name was put
unfoldable pub put_name : List (Option Entry) → Entry → List (Option Entry)
put_name slots e = option_map_or (λ i. slice_set (with_room slots e.name) i (Some e)) (slot_for (with_room slots e.name) e.name) slots

-- the slots after a name was taken
unfoldable pub take_name : List (Option Entry) → List ℕ → List (Option Entry)
take_name slots name = option_map_or (λ i. slice_set slots i None) (slot_of slots name) slots

-- ---- listing (RFC 1094, section 2.2.17)

-- the names in use from the slot i on: the cookie of a slot is its place plus 3
unfoldable pub entries_from : ℕ → List (Option Entry) → List DirEntry
entries_from i [] = []
entries_from i (None ∷ slots) = entries_from (i + 1) slots
entries_from i (Some e ∷ slots) = record { fileid = e.file; name = e.name; cookie = i + 3 } ∷ entries_from (i + 1) slots

-- the entries of the directory n: itself, its parent, and its names
unfoldable pub entries_of : ℕ → ℕ → List (Option Entry) → List DirEntry
entries_of n parent slots =
    record { fileid = n; name = codes "."; cookie = 1 } ∷ record { fileid = parent; name = codes ".."; cookie = 2 } ∷ entries_from 0 slots

-- those behind a cookie
abbrev pub entries_behind : ℕ → List DirEntry → List DirEntry
entries_behind cookie entries = filter (λ e. nat_lt cookie e.cookie) entries

-- what an entry takes of the room of an answer: its four words, and its name, filled up
abbrev pub entry_size : DirEntry → ℕ
entry_size e = 16 + (length e.name + 3) / 4 * 4

-- the longest run of entries that fit
unfoldable pub fitting : ℕ → List DirEntry → List DirEntry
fitting room [] = []
fitting room (e ∷ entries) = if nat_le (entry_size e) room then e ∷ fitting (room - entry_size e) entries else []

-- at least one entry, where there is one
abbrev pub at_least_one : List DirEntry → List DirEntry → List DirEntry
at_least_one [] [] = []
at_least_one [] (e ∷ entries) = e ∷ []
at_least_one (e ∷ run) entries = e ∷ run

-- the entries of an answer that may have this many bytes, 8 of which it needs itself, and never more than 8,192
abbrev pub run_of : ℕ → List DirEntry → List DirEntry
run_of count entries = at_least_one (fitting (min count 8192 - 8) entries) entries
