-- A plan looks at parts of the cluster and makes checks, in an order.
use Rattle.std.specs.Prelude.{◌==◌, Bool, false, if◌then◌else◌, List, [], ◌∷◌, get_or, Option, Some, None, is_some}
use Rattle.std.specs.Option.{option_map_or}
use Rattle.std.specs.List.{list_any}
use Rattle.fs_rules.specs.Statuses.{Check}
use Rattle.node_cache.specs.declared.held.Held.{Held}
use Rattle.node_cache.specs.declared.want.Want.{Want}
use Rattle.node_cache.specs.declared.want.Want.TheVariants.{Inode, Chain, Slots, Map}
use Rattle.node_cache.specs.Cached.{held_of}
use Rattle.plan_rules.specs.declared.look.Look.{Look}
use Rattle.plan_rules.specs.declared.look.Look.TheVariants.{Record, Chaining, Group, BlockBits, InodeBits}

-- the part in which it lies: both maps of a memory node are one
abbrev pub part_of : Look → Want
part_of (Record n) = Inode n
part_of (Chaining n k) = Chain n k
part_of (Group n g) = Slots n g
part_of (BlockBits m) = Map m
part_of (InodeBits m) = Map m

-- whether a part is held
abbrev pub is_held : Held → Want → Bool
is_held held (Inode n) = is_some (held_of n held.entries)
is_held held (Chain n k) = option_map_or (λ e. list_any (λ c. c.index == k) e.chains) (held_of n held.entries) false
is_held held (Slots n g) = option_map_or (λ e. list_any (λ s. s.group == g) e.groups) (held_of n held.entries) false
is_held held (Map m) = is_some (get_or held.maps m None)

-- a step of a plan
pub data Step : Type 0 where
  Looks : Look → Step
  Checks : Check → Step

-- the first part that is not held; a check that fails before it ends the order
unfoldable pub wanted_in : Held → List Step → Option Want
wanted_in held [] = None
wanted_in held (Looks l ∷ steps) = if is_held held (part_of l) then wanted_in held steps else Some (part_of l)
wanted_in held (Checks None ∷ steps) = wanted_in held steps
wanted_in held (Checks (Some status) ∷ steps) = None

-- all that is looked at, up to the check that fails
unfoldable pub looks_in : List Step → List Look
looks_in [] = []
looks_in (Looks l ∷ steps) = l ∷ looks_in steps
looks_in (Checks None ∷ steps) = looks_in steps
looks_in (Checks (Some status) ∷ steps) = []

-- the check that fails
unfoldable pub refusal_in : List Step → Check
refusal_in [] = None
refusal_in (Looks l ∷ steps) = refusal_in steps
refusal_in (Checks None ∷ steps) = refusal_in steps
refusal_in (Checks (Some status) ∷ steps) = Some status
