-- The free blocks that are taken for a file: the lowest of its own memory node, then those of the next ones in a circle.
use Rattle.std.specs.Prelude.{ℕ, zero, suc, ◌+◌, ◌-◌, not, if◌then◌else◌, List, [], ◌++◌, map, take, filter, get_or, None, is_some}
use Rattle.fs_layout.specs.declared.reference.Reference.{Reference}
use Rattle.fs_bitmap.specs.Bits.{is_used}
use Rattle.fs_rules.specs.Lists.{below}
use Rattle.node_cache.specs.declared.held.Held.{Held}
use Rattle.plan_rules.specs.Room.{turned}
use Rattle.plan_rules.specs.Told.{block_bits, free_on}

-- the free ones of the first blocks of a map, lowest first
abbrev pub free_blocks : List ℕ → ℕ → List ℕ
free_blocks bits blocks = filter (λ b. not (is_used bits b)) (below blocks)

-- those of a memory node: none where its maps are not held
abbrev pub free_of : Held → ℕ → List ℕ
free_of held m = if is_some (get_or held.maps m None) then free_blocks (block_bits held m) held.geometry.blocks else []

-- blocks of a memory node
abbrev pub on_memory : ℕ → List ℕ → List Reference
on_memory m blocks = map (λ b. record { memory = m; block = b }) blocks

-- so many at most are taken on so many memory nodes in a circle
unfoldable pub picked_from : Held → ℕ → ℕ → ℕ → List Reference
picked_from held at zero need = []
picked_from held at (suc left) need =
    on_memory (turned held at) (take need (free_of held (turned held at))) ++ picked_from held (at + 1) left (need - free_on held (turned held at))

abbrev pub picked : Held → ℕ → ℕ → List Reference
picked held home need = picked_from held home held.geometry.memories need
