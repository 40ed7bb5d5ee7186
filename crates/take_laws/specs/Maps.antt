-- That marked maps tell the owners of blocks.
use Rattle.std.specs.Prelude.{◌≡◌, ℕ, ◌+◌, ◌/◌, ◌<◌, ◌≤◌, Bool, false, true, not, List, [], map, length, take, Option, Some, None, is_some}
use Rattle.std.specs.List.{AllByRecursion}
use Rattle.fs_layout.specs.declared.reference.Reference.{Reference}
use Rattle.fs_bitmap.specs.Bits.{is_used}
use Rattle.fs_rules.specs.declared.geometry.Geometry.{Geometry}
use Rattle.fs_rules.specs.declared.plain_tree.PlainTree.{PlainTree}
use Rattle.fs_rules.specs.Edits.{Edit}
use Rattle.fs_rules.specs.Geometry.{IsWithinLimits}
use Rattle.mini_tx.specs.FlatMemory.{Flat}
use Rattle.fs_image.specs.Owners.{Owned, Owners, Part}
use Rattle.fs_image.specs.Places.{block_map}
use Rattle.fs_image.specs.Stands.{IsBlock, Shows}
use Rattle.image_puts.specs.Maps.{with_front}
use Rattle.image_puts.specs.Takes.{IsExchange, Take, owners_after}
use Rattle.plan_room.specs.Marks.{AreMarked, has_block}
use Rattle.take_laws.specs.Takes.{keep_all}

-- how many bytes of a map have bits
abbrev pub map_bytes : Geometry → ℕ
map_bytes g = (g.blocks + 7) / 8

-- the map of the blocks of a memory node is left, where none of these is there; or it is put with their bits, by one that is its own
pub data IsMapAfter (g : Geometry) (places : List Reference) (on : Bool) (flat new : Flat) (m : ℕ) : Type 0 where
  left : ((b : ℕ) → has_block places m b ≡ false) → block_map new m ≡ block_map flat m → IsMapAfter g places on flat new m
  put : (bits page : List ℕ) → map_bytes g ≤ length bits → take (map_bytes g) bits ≡ take (map_bytes g) (block_map flat m) → AreMarked m places on bits page
      → block_map new m ≡ with_front (block_map flat m) (map_bytes g) page → IsMapAfter g places on flat new m

-- the maps tell the owners, and have zeros past the last block
pub record AreBlockMaps (g : Geometry) (new : Flat) (p : Owners) : Type 0 where
  pub bits : (r : Reference) → IsBlock g r → is_used (block_map new r.memory) r.block ≡ is_some (p.owner r)
  pub no_block : (m k : ℕ) → m < g.memories → g.blocks ≤ k → k < 16384 → is_used (block_map new m) k ≡ false

-- the blocks of takes
abbrev pub places_of : List Take → List Reference
places_of takes = map (λ t. t.place) takes

-- images that show a tree become others, in which the map of each memory node is one after these blocks were taken; then they tell
-- the owners once they were
abbrev pub MarkedMapsTell : Type 0
MarkedMapsTell = (flat new : Flat) (t : PlainTree) (o : Owners) (es : List Edit) (takes : List Take) → Shows flat t o → IsWithinLimits t.geometry
    → IsExchange t.geometry es o keep_all takes → ((m : ℕ) → m < t.geometry.memories → IsMapAfter t.geometry (places_of takes) true flat new m)
    → AreBlockMaps t.geometry new (owners_after keep_all takes o)

-- ---- blocks that are given up

-- whether the part that has a block is given up
abbrev pub is_given_up : (ℕ → Part → Bool) → Option Owned → Bool
is_given_up keep None = false
is_given_up keep (Some x) = not (keep x.file x.part)

-- the same where blocks are given up and none is taken: those that are freed are just the blocks of parts that are not kept
abbrev pub FreedMapsTell : Type 0
FreedMapsTell = (flat new : Flat) (t : PlainTree) (o : Owners) (es : List Edit) (keep : ℕ → Part → Bool) (freed : List Reference) → Shows flat t o
    → IsWithinLimits t.geometry → IsExchange t.geometry es o keep [] → AllByRecursion (IsBlock t.geometry) freed
    → ((r : Reference) → IsBlock t.geometry r → has_block freed r.memory r.block ≡ is_given_up keep (o.owner r))
    → ((m : ℕ) → m < t.geometry.memories → IsMapAfter t.geometry freed false flat new m) → AreBlockMaps t.geometry new (owners_after keep [] o)
