-- A group of slots that is the flat memory's own has the slots of the tree.
use Rattle.std.proofs.Common.{◌≡◌, ℕ, zero, suc, ◌+◌, ◌-◌, ◌*◌, ◌/◌, ◌<◌, ◌≤◌, min, true, false, Bool, List, length, take, drop, map, Option, Some, None, refl, sym, ap, ◌∙◌, arith}
use Rattle.std.specs.Prelude.{nat_lt, is_some}
use Rattle.std.proofs.lemmas.Bool.{lt-ltb, ltb-false, ltb-true}
use Rattle.std.proofs.lemmas.List.{drop-drop, drop-map, drop-take, length-drop, length-take, length-map, take-map, take-take}
use Rattle.fs_layout.specs.declared.reference.Reference.{Reference}
use Rattle.fs_dir.specs.declared.slot.Slot.{Slot}
use Rattle.fs_dir.specs.Slots.{SpellsSlots}
use Rattle.fs_dir.proofs.BlockLemmas.{block_one}
use Rattle.fs_rules.specs.declared.entry.Entry.{Entry}
use Rattle.fs_rules.specs.declared.geometry.Geometry.{Geometry}
use Rattle.mini_tx.specs.FlatMemory.{Flat}
use Rattle.fs_image.specs.Owners.{Part, Block}
use Rattle.fs_image.specs.Parts.{slot_of, slots_at}
use Rattle.fs_image.specs.Places.{block_bytes}
use Rattle.fs_image.proofs.ContentLemmas.{by_fifteens}
use Rattle.node_cache.specs.declared.entry.HeldGroup.{HeldGroup}
use Rattle.node_cache.specs.Truth.{IsThere, IsGroup}

-- what is said of a directory's blocks: they are there just below their number, and hold its slots
pub record HoldsSlots (g : Geometry) (flat : Flat) (place : Part → Option Reference) (slots : List (Option Entry)) : Type 0 where
  pub there : (i : ℕ) → is_some (place (Block i)) ≡ nat_lt i (length slots / 15)
  pub holds : (i : ℕ) (p : Reference) → place (Block i) ≡ Some p → SpellsSlots (map slot_of (slots_at slots i)) (block_bytes g flat p)
  pub whole : length slots ≡ 15 * (length slots / 15)

module _ (g : Geometry) (flat : Flat) (place : Part → Option Reference) (slots : List (Option Entry)) (dir : HoldsSlots g flat place slots) (s : HeldGroup)
    (own : IsGroup g flat place s) where
  there_by : (IsIt : List ℕ → Type 0) (p : Option Reference) → IsThere g flat IsIt p → (r : Reference) × (p ≡ Some r) × IsIt (block_bytes g flat r)
  there_by IsIt None is = absurd is
  there_by IsIt (Some r) is = (r, refl, is)

  -- a chunk of the group is a block of the directory
  chunk : (j : ℕ) → 15 * j < length s.slots → (j < 64) × (64 * s.group + j < length slots / 15) × (15 * j + 15 ≤ length s.slots)
      × (take 15 (drop (15 * j) s.slots) ≡ map slot_of (slots_at slots (64 * s.group + j)))
  chunk j within =
      let block = own.blocks j within in
      let i = 64 * s.group + j in
      let found = there_by (SpellsSlots (take 15 (drop (15 * j) s.slots))) (place (Block i)) block.1 in
      let below : nat_lt i (length slots / 15) ≡ true = sym (dir.there i) ∙ ap (λ (p : Option Reference). is_some p) found.1 in
      let sized = found.2.sized in (
        block.0,
        ltb-true i (length slots / 15) below,
        omega (arith, sized, length-take 15 (drop (15 * j) s.slots), length-drop (15 * j) s.slots),
        block_one (take 15 (drop (15 * j) s.slots)) (map slot_of (slots_at slots i)) (block_bytes g flat found.0) found.2 (dir.holds i found.0 found.1),
      )

  -- each block of the directory in the group is there
  present : (j : ℕ) → j < 64 → 64 * s.group + j < length slots / 15 → 15 * j < length s.slots
  present j below within =
      own.whole j below (dir.there (64 * s.group + j) ∙ lt-ltb (64 * s.group + j) (length slots / 15) within)

  abbrev blocks : ℕ
  blocks = min 64 (length slots / 15 - 64 * s.group)

  no_more : (b : ℕ) → b ≡ blocks → length s.slots ≤ 15 * b
  no_more b is = elim (nat_lt (15 * b) (length s.slots)) as (λ (x : Bool). nat_lt (15 * b) (length s.slots) ≡ x → length s.slots ≤ 15 * b) [
    | true ↦ λ more. (let one = chunk b (ltb-true (15 * b) (length s.slots) more) in let few = one.0 in let past = one.1 in absurd (omega (arith, is, few, past)))
    | false ↦ λ none. (let past = ltb-false (15 * b) (length s.slots) none in omega (arith, past))
  ] refl

  no_fewer : (b : ℕ) → b ≡ blocks → 15 * b ≤ length s.slots
  no_fewer zero is = omega arith
  no_fewer (suc b) is =
      let last = chunk b (present b (omega (arith, is)) (omega (arith, is))) in
      let whole = last.2 in
      omega (arith, whole)

  pub sized : length s.slots ≡ 15 * blocks
  sized = let most = no_more blocks refl in let least = no_fewer blocks refl in omega (arith, most, least)

  abbrev tree_slots : List Slot
  tree_slots = map slot_of (take 960 (drop (960 * s.group) slots))

  tree_sized : length tree_slots ≡ 15 * blocks
  tree_sized =
      let whole = dir.whole in
      omega (arith, whole, length-map (take 960 (drop (960 * s.group) slots)) slot_of, length-take 960 (drop (960 * s.group) slots), length-drop (960 * s.group) slots)

  -- fifteen slots of the directory from one of the group on
  part_of : (j : ℕ) → j < 64 → take 15 (drop (15 * j) tree_slots) ≡ map slot_of (slots_at slots (64 * s.group + j))
  part_of j below =
      let some = drop (960 * s.group) slots in
      let rest : 960 ≡ 15 * j + (960 - 15 * j) = omega (arith, below) in
      let place_is : 960 * s.group + 15 * j ≡ 15 * (64 * s.group + j) = omega arith in
      ap (take 15) (drop-map slot_of (15 * j) (take 960 some)) ∙ take-map slot_of 15 (drop (15 * j) (take 960 some))
      ∙ ap (λ n. map slot_of (take 15 (drop (15 * j) (take n some)))) rest
      ∙ ap (λ xs. map slot_of (take 15 xs)) (drop-take (15 * j) (960 - 15 * j) some)
      ∙ ap (map slot_of) (take-take 15 (960 - 15 * j) (drop (15 * j) some) (omega (arith, below)))
      ∙ ap (λ xs. map slot_of (take 15 xs)) (drop-drop (15 * j) (960 * s.group) slots)
      ∙ ap (λ n. map slot_of (take 15 (drop n slots))) place_is

  -- a group has the slots of the directory from 960 times its index on
  pub group_is : s.slots ≡ tree_slots
  group_is =
      by_fifteens blocks s.slots tree_slots sized tree_sized
      (λ j below. (let few : j < 64 = omega (arith, below) in let one = chunk j (omega (arith, below, sized)) in one.3 ∙ sym (part_of j few)))
