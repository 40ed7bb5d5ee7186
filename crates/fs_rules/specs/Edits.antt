-- What a call changes, file by file, and the limits that no change passes.
use Rattle.std.specs.Prelude.{ℕ, ◌+◌, ◌-◌, ◌^◌, ◌==◌, nat_lt, Bool, true, false, ◌&&◌, List, [], ◌∷◌, length, sum_by, Option, Some, None, is_none}
use Rattle.std.specs.Option.{option_map_or}
use Rattle.std.specs.List.{list_any}
use Rattle.std.specs.FinMap as table
use Rattle.nfs_proto.specs.declared.stamp.Stamp.{Stamp}
use Rattle.fs_rules.specs.declared.file.File.{File}
use Rattle.fs_rules.specs.declared.plain_tree.PlainTree.{PlainTree}
use Rattle.fs_rules.specs.File.{used, slots_of}
use Rattle.fs_rules.specs.Numbers.{first_free, free_blocks}
use Rattle.fs_rules.specs.Statuses.{Check, fails_where, fbig, nospc}

-- a live file becomes another, but for its change number and the moment of its change, which every change sets; a file is
-- made at a free number; a file is freed
pub data Edit : Type 0 where
  Changed : ℕ → File → Edit
  Made : ℕ → File → Edit
  Freed : ℕ → File → Edit

-- a file that was changed: its change number rises by one, and its ctime is the moment
abbrev pub changed_at : Stamp → File → File
changed_at now f = record f { change = f.change + 1; ctime = now }

-- a freed number keeps its generation and its raised change number; a made file takes what its number kept
abbrev pub edit : Stamp → PlainTree → Edit → PlainTree
edit now t (Changed n f) = record t { files = table.insert t.files n (changed_at now f) }
edit now t (Made n f) = record t { files = table.insert t.files n f; freed = table.remove t.freed n }
edit now t (Freed n f) =
    record t { files = table.remove t.files n; freed = table.insert t.freed n (record { generation = f.generation; change = f.change + 1 }) }

unfoldable pub edited : Stamp → PlainTree → List Edit → PlainTree
edited now t [] = t
edited now t (e ∷ es) = edited now (edit now t e) es

-- the number and the generation of the file that is made
unfoldable pub first_made : List Edit → Option (ℕ × ℕ)
first_made [] = None
first_made (Changed n f ∷ es) = first_made es
first_made (Made n f ∷ es) = Some (n, f.generation)
first_made (Freed n f ∷ es) = first_made es

-- ---- limits

-- a change number that would rise has its last value
abbrev pub is_spent : Edit → Bool
is_spent (Changed n f) = f.change == 2 ^ 64 - 1
is_spent (Made n f) = false
is_spent (Freed n f) = f.change == 2 ^ 64 - 1

-- a link count would pass 32,000
abbrev pub is_linked_too_often : Edit → Bool
is_linked_too_often (Changed n f) = nat_lt 32000 f.links
is_linked_too_often (Made n f) = false
is_linked_too_often (Freed n f) = false

-- a directory would get more than 7,650 slots
abbrev pub has_too_many_slots : Edit → Bool
has_too_many_slots (Changed n f) = nat_lt 7650 (length (slots_of f.content))
has_too_many_slots (Made n f) = false
has_too_many_slots (Freed n f) = false

-- a file is made
abbrev pub is_made : Edit → Bool
is_made (Changed n f) = false
is_made (Made n f) = true
is_made (Freed n f) = false

-- the blocks that the file n uses
abbrev pub used_at : PlainTree → ℕ → ℕ
used_at t n = option_map_or (λ f. used f.content) (table.get t.files n) 0

-- the blocks by which the use of a file rises; what is freed does not count
abbrev pub rise : PlainTree → Edit → ℕ
rise t (Changed n f) = used f.content - used_at t n
rise t (Made n f) = used f.content
rise t (Freed n f) = 0

-- the checks that every change has in common, in their order: change numbers, links, slots, numbers, blocks
unfoldable pub limits : PlainTree → ℕ → List Edit → List Check
limits t start edits =
    fails_where fbig (list_any is_spent edits)
    ∷ fails_where nospc (list_any is_linked_too_often edits)
    ∷ fails_where nospc (list_any has_too_many_slots edits)
    ∷ fails_where nospc (list_any is_made edits && is_none (first_free t start))
    ∷ fails_where nospc (nat_lt (free_blocks t) (sum_by (rise t) edits))
    ∷ []
