-- The parts in which a name is looked for, and those of the files that names name.
use Rattle.std.specs.Prelude.{ℕ, zero, suc, ◌+◌, ◌==◌, nat_lt, Bool, false, not, ◌&&◌, ◌||◌, if◌then◌else◌, List, [], ◌∷◌, ◌++◌, Option, Some, None}
use Rattle.std.specs.List.{list_any}
use Rattle.fs_dir.specs.declared.slot.Slot.{Slot}
use Rattle.fs_dir.specs.Slots.{has_name}
use Rattle.fs_rules.specs.Arguments.{is_dot, is_dot_dot}
use Rattle.node_cache.specs.declared.held.Held.{Held}
use Rattle.plan_rules.specs.declared.look.Look.TheVariants.{Record, Chaining, Group}
use Rattle.plan_rules.specs.Steps.{Step, Looks}
use Rattle.plan_rules.specs.Told.{is_number, at_record, chains_of, dir_groups, group_of, found}

-- ---- slots

-- so many groups of slots from one on, up to the one with which the search ends
unfoldable pub group_steps : Held → ℕ → (List Slot → Bool) → ℕ → ℕ → List Step
group_steps held n ends g zero = []
group_steps held n ends g (suc left) = Looks (Group n g) ∷ (if ends (group_of held n g) then [] else group_steps held n ends (g + 1) left)

-- the first chaining block of a directory, where its record tells one, and then its groups of slots
abbrev pub slot_steps : Held → ℕ → (List Slot → Bool) → List Step
slot_steps held n ends =
    (if nat_lt 0 (chains_of held n) then Looks (Chaining n 0) ∷ [] else []) ++ group_steps held n ends 0 (at_record held n 0 dir_groups)

-- a name is looked for up to the group that has it; for a list of all names the search ends with none
abbrev pub name_steps : Held → ℕ → List ℕ → List Step
name_steps held n name = slot_steps held n (list_any (has_name name))

abbrev pub list_steps : Held → ℕ → List Step
list_steps held n = slot_steps held n (λ slots. false)

-- the record of a file that a name names
abbrev pub record_steps : Option ℕ → List Step
record_steps None = []
record_steps (Some n) = Looks (Record n) ∷ []

-- the file that a name names for LOOKUP: "." is the directory itself, and ".." its parent
abbrev pub target : Held → ℕ → List ℕ → Option ℕ
target held n name = if is_dot name then Some n else if is_dot_dot name then at_record held n None (λ a. Some a.parent) else found held n name

-- ---- the chain of parents

-- the parent that the record of a directory tells; another file has none
abbrev pub parent_of : Held → ℕ → ℕ
parent_of held n = at_record held n 0 (λ a. a.parent)

-- the records on the way up from a directory with so many moves to a parent: up to the root, or to a parent that is no
-- number; what the last move leads to is looked at only where it is the root
unfoldable pub parent_steps : Held → ℕ → ℕ → List Step
parent_steps held n zero = []
parent_steps held n (suc left) =
    if not (n == 1) && (is_number held.geometry (parent_of held n) && ((parent_of held n == 1) || nat_lt 0 left))
    then Looks (Record (parent_of held n)) ∷ parent_steps held (parent_of held n) left
    else []

-- whether at most so many moves lead to the root, and whether a file is on the way
unfoldable pub leads_up : Held → ℕ → ℕ → Bool
leads_up held n zero = n == 1
leads_up held n (suc left) = (n == 1) || leads_up held (parent_of held n) left

unfoldable pub is_on_way : Held → ℕ → ℕ → ℕ → Bool
is_on_way held file n zero = n == file
is_on_way held file n (suc left) = (n == file) || (not (n == 1) && is_on_way held file (parent_of held n) left)
