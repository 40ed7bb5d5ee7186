-- Where a final matches, all that it looked at is the flat memory's own.
use Rattle.std.specs.Prelude.{◌≡◌, ℕ, ◌+◌, ◌/◌, true, List, slice_get, take, All, Some}
use Rattle.fs_rules.specs.declared.geometry.Geometry.{Geometry}
use Rattle.fs_rules.specs.declared.plain_tree.PlainTree.{PlainTree}
use Rattle.mini_tx.specs.FlatMemory.{Flat, Matches}
use Rattle.fs_image.specs.Owners.{Owners}
use Rattle.fs_image.specs.Places.{block_map, inode_map}
use Rattle.fs_image.specs.Stands.{Shows}
use Rattle.node_cache.specs.declared.entry.Entry.{Entry}
use Rattle.node_cache.specs.declared.held.Held.{Held}
use Rattle.node_cache.specs.Cached.{held_of}
use Rattle.node_cache.specs.Truth.{IsOwn, IsTrueEntry}
use Rattle.plan_rules.specs.declared.look.Look.{Look}
use Rattle.plan_rules.specs.declared.look.Look.TheVariants.{Record, Chaining, Group, BlockBits, InodeBits}
use Rattle.plan_rules.specs.Steps.{part_of, is_held}
use Rattle.plan_rules.specs.Told.{block_bits, inode_bits}
use Rattle.plan_rules.specs.Compared.{compares}
use Rattle.plan_rules.specs.Works.{IsWorkSet}

-- each entry that is held is true of a flat memory
abbrev pub AreTrue : Geometry → Flat → Owners → Held → Type 0
AreTrue g flat o held = (i : ℕ) (e : Entry) → slice_get held.entries i ≡ Some e → IsTrueEntry g flat (o.place e.number) e

-- what is held of a file is the flat memory's own
abbrev pub IsOwnFile : Geometry → Flat → Owners → Held → ℕ → Type 0
IsOwnFile g flat o held n = (e : Entry) → held_of n held.entries ≡ Some e → IsOwn g flat (o.place n) e

-- the part in which a look is is the flat memory's own: of a map, the bytes that have bits
abbrev pub IsOwnLook : Geometry → Flat → Owners → Held → Look → Type 0
IsOwnLook g flat o held (Record n) = IsOwnFile g flat o held n
IsOwnLook g flat o held (Chaining n k) = IsOwnFile g flat o held n
IsOwnLook g flat o held (Group n s) = IsOwnFile g flat o held n
IsOwnLook g flat o held (BlockBits m) = take ((g.blocks + 7) / 8) (block_bits held m) ≡ take ((g.blocks + 7) / 8) (block_map flat m)
IsOwnLook g flat o held (InodeBits m) = take ((g.inodes + 7) / 8) (inode_bits held m) ≡ take ((g.inodes + 7) / 8) (inode_map flat m)

-- a flat memory shows a tree, all entries that are held are true of it, what was looked at is held, and what a final compares
-- that made these looks matches: then each of them was at what the flat memory has
abbrev pub MatchedLooksAreOwn : Type 0
MatchedLooksAreOwn = (held : Held) (looks : List Look) (flat : Flat) (t : PlainTree) (o : Owners) → IsWorkSet held → held.geometry ≡ t.geometry
    → Shows flat t o → AreTrue t.geometry flat o held → All (λ l. is_held held (part_of l) ≡ true) looks → Matches (compares held looks) flat → All (IsOwnLook t.geometry flat o held) looks
