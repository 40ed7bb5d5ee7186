-- The number that a new file gets, read off the maps of the inodes.
use Rattle.std.specs.Prelude.{◌≡◌, ℕ, ◌+◌, ◌%◌, ◌<◌, not, List, [], ◌∷◌, map, find, Option, Some, None}
use Rattle.fs_layout.specs.Places.{number_of}
use Rattle.fs_bitmap.specs.Bits.{is_used, IsLowestFree, IsNoneFree}
use Rattle.fs_rules.specs.declared.plain_tree.PlainTree.{PlainTree}
use Rattle.fs_rules.specs.Lists.{below}
use Rattle.fs_rules.specs.Numbers.{first_free}
use Rattle.mini_tx.specs.FlatMemory.{Flat}
use Rattle.fs_image.specs.Owners.{Owners}
use Rattle.fs_image.specs.Places.{inode_map}
use Rattle.fs_image.specs.Stands.{Shows}

-- the lowest bit of a map that is free, of so many
abbrev pub lowest_bit : List ℕ → ℕ → Option ℕ
lowest_bit map bits = find (λ bit. not (is_used map bit)) (below bits)

-- the number of that bit of a memory node, else what the others come to
abbrev pub number_or : ℕ → Option ℕ → Option ℕ → Option ℕ
number_or m None others = others
number_or m (Some inode) others = Some (number_of m inode)

-- the number of the lowest free bit of the first of these memory nodes that has one
abbrev pub first_bit : Flat → ℕ → List ℕ → Option ℕ
first_bit flat inodes [] = None
first_bit flat inodes (m ∷ ms) = number_or m (lowest_bit (inode_map flat m) inodes) (first_bit flat inodes ms)

-- all memory nodes, from one of them on in a circle
abbrev pub circle : ℕ → ℕ → List ℕ
circle memories start = map (λ k. (start + k) % memories) (below memories)

-- the first free number is that of the lowest free bit from a memory node on in a circle
abbrev pub FirstFreeIsLowest : Type 0
FirstFreeIsLowest = (flat : Flat) (t : PlainTree) (o : Owners) (start : ℕ) → Shows flat t o → 0 < t.geometry.memories
    → first_free t start ≡ first_bit flat t.geometry.inodes (circle t.geometry.memories start)

-- what a search of a map finds is that bit
abbrev pub LowestIsFound : Type 0
LowestIsFound = (map : List ℕ) (bits : ℕ) → ((bit : ℕ) → IsLowestFree map bits bit → lowest_bit map bits ≡ Some bit) × (IsNoneFree map bits → lowest_bit map bits ≡ None)
