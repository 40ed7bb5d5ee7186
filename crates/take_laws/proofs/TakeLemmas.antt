-- Picked blocks are free, and each is another one.
use Rattle.std.proofs.Common.{◌≡◌, ℕ, ◌+◌, ◌*◌, ◌/◌, ◌<◌, true, false, Bool, List, [], ◌∷◌, take, Option, Some, None, refl, sym, ap, subst, ◌∙◌, arith}
use Rattle.std.specs.Prelude.{◌==◌, ◌&&◌, ◌||◌, is_some}
use Rattle.std.specs.List.{AllByRecursion, list_any}
use Rattle.std.proofs.lemmas.Bool.{eqb-true}
use Rattle.std.proofs.lemmas.List.Elements.{recursion_from_All}
use Rattle.fs_bitmap.specs.Bits.{is_used}
use Rattle.fs_bitmap.proofs.MapLemmas.{used-take}
use Rattle.fs_layout.specs.declared.reference.Reference.{Reference}
use Rattle.fs_rules.specs.declared.geometry.Geometry.{Geometry}
use Rattle.fs_rules.specs.declared.plain_tree.PlainTree.{PlainTree}
use Rattle.fs_rules.specs.Edits.{Edit}
use Rattle.fs_rules.specs.Numbers.{IsNumber}
use Rattle.mini_tx.specs.FlatMemory.{Flat}
use Rattle.fs_image.specs.Edits.{are_of}
use Rattle.fs_image.specs.Owners.{Owned, Owners, Part, is_same_part, is_same_place, kept_part, only}
use Rattle.fs_image.specs.Places.{block_map}
use Rattle.fs_image.specs.Stands.{IsBlock, Shows}
use Rattle.node_cache.specs.declared.held.Held.{Held}
use Rattle.plan_rules.specs.declared.look.Look.{Look}
use Rattle.plan_rules.specs.declared.look.Look.TheVariants.{Record, Chaining, Group, BlockBits, InodeBits}
use Rattle.plan_rules.specs.Compared.{is_at_blocks}
use Rattle.plan_rules.specs.Matched.{IsOwnLook}
use Rattle.plan_rules.specs.Told.{block_bits}
use Rattle.image_puts.specs.Takes.{AreOthers, IsAnother, IsFreeFor}
use Rattle.plan_room.specs.Laws.{AreDifferent, IsFreeBlock}
use Rattle.plan_room.specs.Picked.{picked}
use Rattle.plan_room.proofs.PickLemmas.{picked_are_free}
use Rattle.take_laws.specs.Takes.{AreParts, PickedMayBeTaken, keep_all, room_looks, takes_of}

and_false : (a b : Bool) → b ≡ false → a && b ≡ false
and_false true b is = is
and_false false b is = refl

none_of : {X : Type 0} (p : Option X) → is_some p ≡ false → p ≡ None
none_of None is = refl
none_of (Some x) is = absurd cc

module _ (held : Held) (flat : Flat) (t : PlainTree) (o : Owners) (es : List Edit) (n : ℕ) (same : held.geometry ≡ t.geometry) (shows : Shows flat t o) where
  abbrev g : Geometry
  g = t.geometry

  abbrev IsOwnMap : ℕ → Type 0
  IsOwnMap m = take ((g.blocks + 7) / 8) (block_bits held m) ≡ take ((g.blocks + 7) / 8) (block_map flat m)

  -- a map that was looked at is the memory's own
  own_by : (k m : ℕ) (looks : List Look) (b : Bool) → (k == m) ≡ b → IsOwnMap k → (list_any (is_at_blocks m) looks ≡ true → IsOwnMap m)
      → b || list_any (is_at_blocks m) looks ≡ true → IsOwnMap m
  own_by k m looks true is own rest at = subst IsOwnMap (eqb-true k m is) own
  own_by k m looks false is own rest at = rest at

  own_map : (m : ℕ) (looks : List Look) → AllByRecursion (IsOwnLook g flat o held) looks → list_any (is_at_blocks m) looks ≡ true → IsOwnMap m
  own_map m [] all at = absurd cc
  own_map m (Record k ∷ looks) all at = own_map m looks all.1 at
  own_map m (Chaining k j ∷ looks) all at = own_map m looks all.1 at
  own_map m (Group k j ∷ looks) all at = own_map m looks all.1 at
  own_map m (BlockBits k ∷ looks) all at = own_by k m looks (k == m) refl all.0 (λ rest. own_map m looks all.1 rest) at
  own_map m (InodeBits k ∷ looks) all at = own_map m looks all.1 at

  -- a free block has no owner
  kept_none : (p : Option Owned) → p ≡ None → kept_part keep_all p ≡ None
  kept_none None is = refl
  kept_none (Some x) is = absurd cc

  no_owner : (looks : List Look) (r : Reference) → AllByRecursion (IsOwnLook g flat o held) looks → IsFreeBlock held looks r → o.owner r ≡ None
  no_owner looks r all free =
      let block = subst (λ (h : Geometry). IsBlock h r) same free.block in
      let own = own_map r.memory looks all free.looked in
      let count = (g.blocks + 7) / 8 in
      let less = block.block in
      let inside : r.block < 8 * count = omega (arith, less) in
      let unused : is_used (block_map flat r.memory) r.block ≡ false =
      sym (used-take (block_map flat r.memory) count r.block inside) ∙ ap (λ (bits : List ℕ). is_used bits r.block) (sym own)
      ∙ used-take (block_bits held r.memory) count r.block inside ∙ free.free in
      none_of (o.owner r) (sym (shows.bits r block) ∙ unused)

  takes_free : (looks : List Look) (parts : List Part) (rs : List Reference) → are_of es n ≡ true → IsNumber g n → AllByRecursion (IsOwnLook g flat o held) looks
      → AllByRecursion (λ x. o.place n x ≡ None) parts → AllByRecursion (IsFreeBlock held looks) rs → AllByRecursion (IsFreeFor g es (only keep_all o)) (takes_of n parts rs)
  takes_free looks [] rs of number all missing free = tt
  takes_free looks (x ∷ xs) [] of number all missing free = tt
  takes_free looks (x ∷ xs) (r ∷ rs) of number all missing free = (
    record {
      of = of;
      number = number;
      block = subst (λ (h : Geometry). IsBlock h r) same free.0.block;
      free = kept_none (o.owner r) (no_owner looks r all free.0);
      missing = missing.0;
    },
    takes_free looks xs rs of number all missing.1 free.1,
  )

-- ---- no two are the same

another_each : (n : ℕ) (x : Part) (r : Reference) (parts : List Part) (rs : List Reference) → AllByRecursion (λ y. is_same_part y x ≡ false) parts
    → AllByRecursion (λ q. is_same_place q r ≡ false) rs → AllByRecursion (IsAnother (record { file = n; part = x; place = r })) (takes_of n parts rs)
another_each n x r [] rs parts_differ places_differ = tt
another_each n x r (y ∷ ys) [] parts_differ places_differ = tt
another_each n x r (y ∷ ys) (q ∷ qs) parts_differ places_differ =
    (record { place = places_differ.0; part = and_false (n == n) (is_same_part y x) parts_differ.0 }, another_each n x r ys qs parts_differ.1 places_differ.1)

takes_differ : (n : ℕ) (parts : List Part) (rs : List Reference) → AreParts parts → AreDifferent rs → AreOthers (takes_of n parts rs)
unfolding AreParts AreDifferent AreOthers
takes_differ n [] rs parts_differ places_differ = tt
takes_differ n (x ∷ xs) [] parts_differ places_differ = tt
takes_differ n (x ∷ xs) (r ∷ rs) parts_differ places_differ =
    (another_each n x r xs rs parts_differ.0 places_differ.0, takes_differ n xs rs parts_differ.1 places_differ.1)

pub picked_may_be_taken : PickedMayBeTaken
picked_may_be_taken held flat t o es home need n parts work same shows less own new =
    let free = picked_are_free held home need work less in
    let looks = room_looks held home need in
    record {
      inverse = shows.inverse;
      inside = shows.inside;
      keeps = λ k x other. refl;
      free = takes_free held flat t o es n same shows looks parts (picked held home need) new.of new.number (recursion_from_All (IsOwnLook t.geometry flat o held) looks own)
          new.missing free.free;
      others = takes_differ n parts (picked held home need) new.different free.different;
    }
