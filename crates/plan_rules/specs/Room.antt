-- The maps in which a free number and free blocks are looked for.
use Rattle.std.specs.Prelude.{ℕ, zero, suc, ◌+◌, ◌-◌, ◌%◌, ◌==◌, nat_lt, is_none, is_some, min, if◌then◌else◌, List, [], ◌∷◌, ◌++◌, sum_by, Option, None}
use Rattle.std.specs.Option.{option_or}
use Rattle.fs_rules.specs.Lists.{below}
use Rattle.fs_rules.specs.Statuses.{fails_where, nospc}
use Rattle.node_cache.specs.declared.held.Held.{Held}
use Rattle.plan_rules.specs.declared.look.Look.TheVariants.{BlockBits, InodeBits}
use Rattle.plan_rules.specs.Steps.{Step, Looks, Checks}
use Rattle.plan_rules.specs.Told.{free_on, free_number}
use Rattle.plan_rules.specs.Names.{record_steps}

-- the memory node at a place of the circle
abbrev pub turned : Held → ℕ → ℕ
turned held at = at % held.geometry.memories

-- ---- a number

-- the maps of so many memory nodes in a circle, up to one with a free inode
unfoldable pub number_maps : Held → ℕ → ℕ → List Step
number_maps held at zero = []
number_maps held at (suc left) =
    Looks (InodeBits (turned held at)) ∷ (if is_some (free_number held (turned held at)) then [] else number_maps held (at + 1) left)

-- the number of the lowest free inode of the first of them that has one
unfoldable pub number_from : Held → ℕ → ℕ → Option ℕ
number_from held at zero = None
number_from held at (suc left) = option_or (free_number held (turned held at)) (number_from held (at + 1) left)

abbrev pub new_number : Held → ℕ → Option ℕ
new_number held start = number_from held start held.geometry.memories

-- then the record of this number
abbrev pub number_steps : Held → ℕ → List Step
number_steps held start =
    number_maps held start held.geometry.memories
    ++ (Checks (fails_where nospc (is_none (new_number held start))) ∷ record_steps (new_number held start))

-- ---- blocks

-- so many new blocks, for a file of this memory node
pub record Need : Type 0 where
  pub home : ℕ
  pub count : ℕ

-- the maps of so many memory nodes in a circle, until enough blocks are free on them
unfoldable pub room_maps : Held → (ℕ → ℕ) → ℕ → ℕ → ℕ → List Step
room_maps held free at zero need = []
room_maps held free at (suc left) need =
    if nat_lt 0 need then Looks (BlockBits (turned held at)) ∷ room_maps held free (at + 1) left (need - free (turned held at)) else []

-- how many are taken on a memory node then
unfoldable pub taken_on : Held → (ℕ → ℕ) → ℕ → ℕ → ℕ → ℕ → ℕ
taken_on held free m at zero need = 0
taken_on held free m at (suc left) need =
    (if turned held at == m then min need (free m) else 0) + taken_on held free m (at + 1) left (need - free (turned held at))

-- one need after the other: what the first one takes is not free for the next
unfoldable pub needs_maps : Held → (ℕ → ℕ) → List Need → List Step
needs_maps held free [] = []
needs_maps held free (n ∷ needs) =
    room_maps held free n.home held.geometry.memories n.count
    ++ needs_maps held (λ m. free m - taken_on held free m n.home held.geometry.memories n.count) needs

abbrev pub needs_steps : Held → List Need → List Step
needs_steps held needs =
    needs_maps held (free_on held) needs
    ++ (Checks (fails_where nospc (nat_lt (sum_by (free_on held) (below held.geometry.memories)) (sum_by (λ n. n.count) needs))) ∷ [])
