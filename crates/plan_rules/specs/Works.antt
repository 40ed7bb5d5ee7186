-- Work sets in order, and the parts that can be fetched beside them.
use Rattle.std.specs.Prelude.{◌≡◌, ℕ, ◌*◌, ◌<◌, IsTrue, List, length, map, slice_get, Some}
use Rattle.std.specs.List.Sorted.{IsStrictlyIncreasing}
use Rattle.fs_layout.specs.Inodes.{SpellsInode}
use Rattle.fs_rules.specs.declared.geometry.Geometry.{Geometry}
use Rattle.fs_rules.specs.Geometry.{IsWithinLimits}
use Rattle.node_cache.specs.declared.entry.Entry.{Entry}
use Rattle.node_cache.specs.declared.entry.HeldChain.{HeldChain}
use Rattle.node_cache.specs.declared.entry.HeldGroup.{HeldGroup}
use Rattle.node_cache.specs.declared.held.Held.{Held}
use Rattle.node_cache.specs.declared.want.Want.{Want}
use Rattle.node_cache.specs.declared.want.Want.TheVariants as want
use Rattle.plan_rules.specs.Steps.{is_held}
use Rattle.plan_rules.specs.Told.{is_number, at_record, chains_of, dir_blocks}
use Rattle.plan_rules.specs.Fits.{IsFitRecord, IsFitChain, AreFitSlots}

-- what is held of one file is fit: its record can be spelled
pub record IsFitEntry (g : Geometry) (e : Entry) : Type 0 where
  pub number : IsTrue (is_number g e.number)
  pub bytes : List ℕ
  pub spelled : SpellsInode e.attrs bytes
  pub attrs : IsFitRecord g e.attrs
  pub chains : (i : ℕ) (c : HeldChain) → slice_get e.chains i ≡ Some c → IsFitChain g e.attrs e.number c.index c.chain
  pub groups : (i : ℕ) (s : HeldGroup) → slice_get e.groups i ≡ Some s → AreFitSlots g s.slots

-- a work set is in order: fit entries in ascending number, and a place with a page or none for each memory node
pub record IsWorkSet (held : Held) : Type 0 where
  pub limits : IsWithinLimits held.geometry
  pub ascending : IsStrictlyIncreasing (map (λ e. e.number) held.entries)
  pub entries : (i : ℕ) (e : Entry) → slice_get held.entries i ≡ Some e → IsFitEntry held.geometry e
  pub places : length held.maps ≡ held.geometry.memories
  pub pages : (m : ℕ) (page : List ℕ) → slice_get held.maps m ≡ Some (Some page) → length page ≡ 4096

-- a part is told by what is held: its number is one of this cluster, the record of its file tells it, and the chaining blocks
-- that lead to it are held
abbrev pub IsTold : Held → Want → Type 0
IsTold held (want.Inode n) = IsTrue (is_number held.geometry n)
IsTold held (want.Chain n k) = (k < chains_of held n) × ((i : ℕ) → i < k → IsTrue (is_held held (want.Chain n i)))
IsTold held (want.Slots n g) = (64 * g < at_record held n 0 dir_blocks) × IsTrue (is_held held (want.Chain n 0))
IsTold held (want.Map m) = m < held.geometry.memories
