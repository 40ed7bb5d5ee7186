-- The slots of some groups of a directory.
use Rattle.std.specs.Prelude.{ℕ, zero, suc, ◌+◌, nat_lt, if◌then◌else◌, List, [], ◌∷◌, ◌++◌, find, Option, option_map}
use Rattle.fs_dir.specs.declared.slot.Slot.{Slot}
use Rattle.fs_dir.specs.Slots.{has_name}
use Rattle.node_cache.specs.declared.held.Held.{Held}
use Rattle.plan_rules.specs.declared.look.Look.TheVariants.{Chaining}
use Rattle.plan_rules.specs.Steps.{Step, Looks}
use Rattle.plan_rules.specs.Told.{chains_of, group_of}

-- those of so many groups from one on
unfoldable pub groups_from : Held → ℕ → ℕ → ℕ → List Slot
groups_from held n g zero = []
groups_from held n g (suc left) = group_of held n g ++ groups_from held n (g + 1) left

-- the number of the first file in slots with a name
abbrev pub named_in : List ℕ → List Slot → Option ℕ
named_in name slots = option_map (λ s. s.number) (find (has_name name) slots)

-- the look at the first chaining block of a directory, where its record tells one
abbrev pub first_steps : Held → ℕ → List Step
first_steps held n = if nat_lt 0 (chains_of held n) then Looks (Chaining n 0) ∷ [] else []
