-- Parts of one block.
use Rattle.std.specs.Prelude.{ℕ, ◌+◌, List, [], map, slice_index, unwrap_or}
use Rattle.std.specs.FinMap as table
use Rattle.fs_rules.specs.File.{BlockMap}
use Rattle.fs_rules.specs.Lists.{below}

-- the bytes of the block at an index: none where it is not stored
abbrev pub block_at : BlockMap → ℕ → List ℕ
block_at blocks index = unwrap_or (table.get blocks index) []

-- so many bytes of a block from a place on, with zeros behind its end
unfoldable pub piece : List ℕ → ℕ → ℕ → List ℕ
piece block from count = map (λ i. slice_index block (from + i)) (below count)

-- n indices from one on
abbrev pub from_on : ℕ → ℕ → List ℕ
from_on first n = map (λ k. first + k) (below n)
