-- What a final puts into the regions of images, and what it leaves.
use Rattle.std.specs.Prelude.{◌≡◌, ◌≢◌, ℕ, ◌+◌, ◌<◌, ◌≤◌, List, [], ◌∷◌, length, map, slice_get, Some}
use Rattle.std.specs.List.{AllByRecursion}
use Rattle.fs_layout.specs.Places.{image_size}
use Rattle.fs_rules.specs.declared.geometry.Geometry.{Geometry}
use Rattle.mini_tx.specs.declared.item.Item.{Item}
use Rattle.mini_tx.specs.declared.item.Item.TheVariants as item
use Rattle.mini_tx.specs.FlatMemory.{Flat, held_by, bytes_at, with_bytes, after}
use Rattle.fs_image.specs.Places.{layout_of, behind_records}
use Rattle.fs_image.specs.Regions.{Region, IsRegion, start, size}

-- bytes that go into a region of a memory node, from a place in it on
pub record Put : Type 0 where
  pub memory : ℕ
  pub region : Region
  pub offset : ℕ
  pub bytes : List ℕ

-- it lies inside a region of a cluster
pub record IsInside (g : Geometry) (p : Put) : Type 0 where
  pub memory : p.memory < g.memories
  pub region : IsRegion (layout_of g) p.region
  pub ends : p.offset + length p.bytes ≤ size p.region

-- nothing of it goes into a region
abbrev pub IsElsewhere : ℕ → Region → Put → Type 0
IsElsewhere m r p = p.memory ≡ m → p.region ≢ r

-- each region is put once at most
unfoldable pub AreOnce : List Put → Type 0
AreOnce [] = Unit {0}
AreOnce (p ∷ puts) = AllByRecursion (IsElsewhere p.memory p.region) puts × AreOnce puts

-- the write item of a put
abbrev pub item_of : Geometry → Put → Item
item_of g p = item.Write p.memory (start (layout_of g) p.region + p.offset) p.bytes

-- what a region holds
abbrev pub region_bytes : Geometry → Flat → ℕ → Region → List ℕ
region_bytes g flat m r = bytes_at (held_by flat m) (start (layout_of g) r) (size r)

-- the images of a cluster, by their number and sizes
pub record AreImages (g : Geometry) (flat : Flat) : Type 0 where
  pub memories : length flat ≡ g.memories
  pub sized : (m : ℕ) → m < g.memories → length (held_by flat m) ≡ image_size (layout_of g)

-- what puts leave: each region that was put holds that at its place, and all else is as it was
pub record IsPut (g : Geometry) (puts : List Put) (flat new : Flat) : Type 0 where
  pub images : AreImages g new
  pub put : (i : ℕ) (p : Put) → slice_get puts i ≡ Some p
      → region_bytes g new p.memory p.region ≡ with_bytes (region_bytes g flat p.memory p.region) p.offset p.bytes
  pub kept : (m : ℕ) (r : Region) → IsRegion (layout_of g) r → AllByRecursion (IsElsewhere m r) puts → region_bytes g new m r ≡ region_bytes g flat m r
  pub behind : (m : ℕ) → behind_records g new m ≡ behind_records g flat m

abbrev pub PutsArePut : Type 0
PutsArePut = (g : Geometry) (puts : List Put) (flat : Flat) → AreImages g flat → AllByRecursion (IsInside g) puts → AreOnce puts
    → IsPut g puts flat (after (map (item_of g) puts) flat)
