-- How many blocks are free, read off the maps of the blocks.
use Rattle.std.specs.Prelude.{◌≡◌, ℕ, zero, suc, ◌+◌}
use Rattle.fs_bitmap.specs.Bits.{free_below}
use Rattle.fs_rules.specs.declared.geometry.Geometry.{Geometry}
use Rattle.fs_rules.specs.declared.plain_tree.PlainTree.{PlainTree}
use Rattle.fs_rules.specs.Good.{IsGood}
use Rattle.fs_rules.specs.Numbers.{free_blocks}
use Rattle.mini_tx.specs.FlatMemory.{Flat}
use Rattle.fs_image.specs.Owners.{Owners}
use Rattle.fs_image.specs.Places.{block_map}
use Rattle.fs_image.specs.Stands.{Shows}

-- the sum over the numbers below another
abbrev pub sum_below : ℕ → (ℕ → ℕ) → ℕ
sum_below zero f = 0
sum_below (suc n) f = sum_below n f + f n

-- how many bits of the maps of all memory nodes are free
abbrev pub free_bits : Geometry → Flat → ℕ
free_bits g flat = sum_below g.memories (λ m. free_below (block_map flat m) g.blocks)

-- the free blocks of the tree are the free bits of the maps
abbrev pub FreeBlocksAreFreeBits : Type 0
FreeBlocksAreFreeBits = (flat : Flat) (t : PlainTree) (o : Owners) → Shows flat t o → IsGood t → free_blocks t ≡ free_bits t.geometry flat
