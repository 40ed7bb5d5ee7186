-- What a regular file or a link contains: bytes in blocks of 4,096, where a block that is not stored reads as zeros.
use Rattle.std.specs.Prelude.{ℕ, ◌+◌, ◌-◌, ◌*◌, ◌/◌, ◌%◌, ◌==◌, nat_lt, nat_le, ◌&&◌, if◌then◌else◌, List, [], ◌∷◌, ◌++◌, length, map, take, replicate, slice_index}
use Rattle.std.specs.Option.{option_map_or}
use Rattle.std.specs.FinMap as table
use Rattle.fs_rules.specs.File.{BlockMap}
use Rattle.fs_rules.specs.Lists.{below}

-- ---- reading

-- the byte at a place of a file: that of its block, and 0 where this is not stored
abbrev pub byte_at : BlockMap → ℕ → ℕ
byte_at blocks place = option_map_or (λ block. slice_index block (place % 4096)) (table.get blocks (place / 4096)) 0

-- so many bytes from a place on
unfoldable pub part : BlockMap → ℕ → ℕ → List ℕ
part blocks from count = map (λ i. byte_at blocks (from + i)) (below count)

-- ---- writing

-- the byte at a place after these bytes were written at an offset
abbrev pub byte_after : BlockMap → ℕ → List ℕ → ℕ → ℕ
byte_after blocks offset bytes place = if nat_le offset place && nat_lt place (offset + length bytes) then slice_index bytes (place - offset) else byte_at blocks place

-- a block after that
unfoldable pub block_after : BlockMap → ℕ → List ℕ → ℕ → List ℕ
block_after blocks offset bytes index = map (λ i. byte_after blocks offset bytes (4096 * index + i)) (below 4096)

-- the blocks in which n bytes at an offset lie
unfoldable pub touched : ℕ → ℕ → List ℕ
touched offset n = if n == 0 then [] else map (λ k. offset / 4096 + k) (below ((offset + n - 1) / 4096 + 1 - offset / 4096))

-- these blocks are stored
unfoldable pub store : (ℕ → List ℕ) → List ℕ → BlockMap → BlockMap
store block [] blocks = blocks
store block (k ∷ ks) blocks = store block ks (table.insert blocks k (block k))

-- the blocks after bytes were written at an offset: those in which they lie are stored
unfoldable pub written : BlockMap → ℕ → List ℕ → BlockMap
written blocks offset bytes = store (block_after blocks offset bytes) (touched offset (length bytes)) blocks

-- ---- a new size

-- a block whose bytes from a place on are zeros
abbrev pub zeroed_from : ℕ → List ℕ → List ℕ
zeroed_from at block = take at block ++ replicate (length block - at) 0

-- the blocks that begin below a size
abbrev pub blocks_below : ℕ → BlockMap → BlockMap
blocks_below size blocks = table.retain_keys blocks (λ k. nat_lt (4096 * k) size)

-- the blocks below a size, of which the last one has zeros past it
unfoldable pub cut : ℕ → BlockMap → BlockMap
cut size blocks =
    option_map_or
    (λ block. table.insert (blocks_below size blocks) (size / 4096) (zeroed_from (size % 4096) block))
    (table.get (blocks_below size blocks) (size / 4096))
    (blocks_below size blocks)

-- the blocks after the size was set: a smaller one removes the blocks past it and zeroes the rest of the last one, a greater
-- one stores none
abbrev pub resized : ℕ → ℕ → BlockMap → BlockMap
resized old new blocks = if nat_lt new old then cut new blocks else blocks
