-- What holds of the blocks that are taken.
use Rattle.std.specs.Prelude.{◌≡◌, ℕ, ◌<◌, ◌≤◌, true, false, IsTrue, List, [], ◌∷◌, length, sum_by}
use Rattle.std.specs.List.{AllByRecursion, list_any}
use Rattle.fs_layout.specs.declared.reference.Reference.{Reference}
use Rattle.fs_bitmap.specs.Bits.{is_used}
use Rattle.fs_rules.specs.Lists.{below}
use Rattle.fs_image.specs.Owners.{is_same_place}
use Rattle.fs_image.specs.Stands.{IsBlock}
use Rattle.node_cache.specs.declared.held.Held.{Held}
use Rattle.node_cache.specs.declared.want.Want.TheVariants.{Map}
use Rattle.plan_rules.specs.declared.look.Look.{Look}
use Rattle.plan_rules.specs.Compared.{is_at_blocks}
use Rattle.plan_rules.specs.Room.{room_maps}
use Rattle.plan_rules.specs.Steps.{is_held, looks_in}
use Rattle.plan_rules.specs.Told.{block_bits, free_on}
use Rattle.plan_rules.specs.Works.{IsWorkSet}
use Rattle.plan_room.specs.Picked.{picked}

-- a block of the cluster that is free by the map of its memory node, which is held and was looked at
pub record IsFreeBlock (held : Held) (looks : List Look) (r : Reference) : Type 0 where
  pub block : IsBlock held.geometry r
  pub held_is : IsTrue (is_held held (Map r.memory))
  pub free : is_used (block_bits held r.memory) r.block ≡ false
  pub looked : list_any (is_at_blocks r.memory) looks ≡ true

-- no two are the same block
unfoldable pub AreDifferent : List Reference → Type 0
AreDifferent [] = Unit {0}
AreDifferent (r ∷ rs) = AllByRecursion (λ q. is_same_place q r ≡ false) rs × AreDifferent rs

pub record AreFreeBlocks (held : Held) (home need : ℕ) (rs : List Reference) : Type 0 where
  pub enough : need ≤ sum_by (free_on held) (below held.geometry.memories) → length rs ≡ need
  pub free : AllByRecursion (IsFreeBlock held (looks_in (room_maps held (free_on held) home held.geometry.memories need))) rs
  pub different : AreDifferent rs

-- what is taken are so many free blocks of the cluster, all different, where so many are free on the maps that are held
abbrev pub PickedAreFree : Type 0
PickedAreFree = (held : Held) (home need : ℕ) → IsWorkSet held → home < held.geometry.memories → AreFreeBlocks held home need (picked held home need)
