-- What a final compares: that all it looked at is as it was held.
use Rattle.std.specs.Prelude.{ℕ, ◌+◌, ◌/◌, ◌==◌, Bool, false, if◌then◌else◌, List, [], ◌∷◌, ◌++◌, map, take, flat_map}
use Rattle.std.specs.List.{list_any}
use Rattle.fs_layout.specs.Places.{record_at}
use Rattle.fs_image.specs.Stamps.{stamp}
use Rattle.mini_tx.specs.declared.item.Item.{Item}
use Rattle.mini_tx.specs.declared.item.Item.TheVariants as item
use Rattle.node_cache.specs.declared.held.Held.{Held}
use Rattle.plan_rules.specs.declared.look.Look.{Look}
use Rattle.plan_rules.specs.declared.look.Look.TheVariants.{Record, Chaining, Group, BlockBits, InodeBits}
use Rattle.plan_rules.specs.declared.look.Subject.{Subject}
use Rattle.plan_rules.specs.declared.look.Subject.TheVariants.{File, Maps}
use Rattle.plan_rules.specs.Told.{memory_at, inode_at, at_record, block_bits, inode_bits}

-- what a look is at
abbrev pub subject_of : Look → Subject
subject_of (Record n) = File n
subject_of (Chaining n k) = File n
subject_of (Group n g) = File n
subject_of (BlockBits m) = Maps m
subject_of (InodeBits m) = Maps m

abbrev pub is_same : Subject → Subject → Bool
is_same (File n) (File k) = n == k
is_same (File n) (Maps m) = false
is_same (Maps m) (File n) = false
is_same (Maps m) (Maps k) = m == k

-- each but those before it once, in the order in which they come first
unfoldable pub firsts : List Subject → List Subject → List Subject
firsts before [] = []
firsts before (s ∷ subjects) = if list_any (is_same s) before then firsts before subjects else s ∷ firsts (before ++ s ∷ []) subjects

-- whether a look is at one of the two maps of a memory node
abbrev pub is_at_blocks : ℕ → Look → Bool
is_at_blocks m (Record n) = false
is_at_blocks m (Chaining n k) = false
is_at_blocks m (Group n g) = false
is_at_blocks m (BlockBits k) = k == m
is_at_blocks m (InodeBits k) = false

abbrev pub is_at_inodes : ℕ → Look → Bool
is_at_inodes m (Record n) = false
is_at_inodes m (Chaining n k) = false
is_at_inodes m (Group n g) = false
is_at_inodes m (BlockBits k) = false
is_at_inodes m (InodeBits k) = k == m

-- the stamp of a file stands in its record
abbrev pub stamp_items : Held → ℕ → List Item
stamp_items held n = at_record held n [] (λ a. item.Compare (memory_at n) (record_at (inode_at n) + 24) (stamp a) ∷ [])

-- the map of the blocks and that of the inodes of a memory node, where they were looked at: as many bytes as have bits
abbrev pub block_items : Held → ℕ → List Item
block_items held m = item.Compare m 4096 (take ((held.geometry.blocks + 7) / 8) (block_bits held m)) ∷ []

abbrev pub inode_items : Held → ℕ → List Item
inode_items held m = item.Compare m 6144 (take ((held.geometry.inodes + 7) / 8) (inode_bits held m)) ∷ []

abbrev pub items_of : Held → List Look → Subject → List Item
items_of held looks (File n) = stamp_items held n
items_of held looks (Maps m) =
    (if list_any (is_at_blocks m) looks then block_items held m else []) ++ (if list_any (is_at_inodes m) looks then inode_items held m else [])

-- the compare items of a final that looked at these, in the order in which they were looked at first
unfoldable pub compares : Held → List Look → List Item
compares held looks = flat_map (items_of held looks) (firsts [] (map subject_of looks))
