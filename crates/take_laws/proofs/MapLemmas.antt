-- The maps once blocks were taken.
use Rattle.std.proofs.Common.{◌≡◌, ℕ, ◌*◌, ◌/◌, ◌<◌, ◌≤◌, inl, inr, true, false, cond, Bool, List, [], ◌∷◌, length, drop, Option, Some, None, refl, sym, ap, ◌∙◌, arith}
use Rattle.std.specs.Prelude.{◌==◌, ◌&&◌, ◌||◌, is_some, not}
use Rattle.std.specs.List.{AllByRecursion}
use Rattle.std.proofs.lemmas.Bool.{cases_lt, ne_eqb}
use Rattle.std.proofs.lemmas.List.{length-drop, length-take}
use Rattle.fs_bitmap.specs.Bits.{is_used}
use Rattle.fs_bitmap.proofs.MapLemmas.{used-take}
use Rattle.fs_layout.specs.declared.reference.Reference.{Reference}
use Rattle.fs_rules.specs.declared.geometry.Geometry.{Geometry}
use Rattle.fs_rules.specs.declared.plain_tree.PlainTree.{PlainTree}
use Rattle.fs_rules.specs.Edits.{Edit}
use Rattle.fs_rules.specs.Geometry.{IsWithinLimits}
use Rattle.mini_tx.specs.FlatMemory.{Flat, held_by}
use Rattle.fs_image.specs.Owners.{Owned, Owners, Part, is_same_place, kept_part, only}
use Rattle.fs_image.specs.Places.{block_map}
use Rattle.fs_image.specs.Stands.{IsBlock, Shows}
use Rattle.image_puts.specs.Maps.{FrontsArePut}
use Rattle.image_puts.specs.Takes.{ExchangesAreOwners, IsFreeFor, Take, is_taken}
use Rattle.plan_room.specs.Marks.{has_block}
use Rattle.take_laws.specs.Maps.{FreedMapsTell, IsMapAfter, MarkedMapsTell, is_given_up, left, map_bytes, places_of, put}
use Rattle.take_laws.specs.Takes.{keep_all}

-- ---- blocks of a list

places_within : (g : Geometry) (es : List Edit) (o : Owners) (takes : List Take) → AllByRecursion (IsFreeFor g es o) takes → AllByRecursion (IsBlock g) (places_of takes)
places_within g es o [] all = tt
places_within g es o (t ∷ takes) all = (all.0.block, places_within g es o takes all.1)

and_false : (a b : Bool) → b ≡ false → a && b ≡ false
and_false true b is = is
and_false false b is = refl

or_false : (a b : Bool) → a ≡ false → b ≡ false → a || b ≡ false
or_false true b first second = absurd cc
or_false false b first second = second

-- no block past the last one is among blocks of the cluster
none_past : (g : Geometry) (m b : ℕ) (rs : List Reference) → g.blocks ≤ b → AllByRecursion (IsBlock g) rs → has_block rs m b ≡ false
none_past g m b [] past all = refl
none_past g m b (r ∷ rs) past all =
    let less = all.0.block in
    or_false ((m == r.memory) && (b == r.block)) (has_block rs m b) (and_false (m == r.memory) (b == r.block) (ne_eqb b r.block (λ same. (omega (arith, past, less, same)))))
    (none_past g m b rs past all.1)

taken_is : (r : Reference) (takes : List Take) → is_taken takes r ≡ has_block (places_of takes) r.memory r.block
taken_is r [] = refl
taken_is r (t ∷ takes) = ap (λ b. is_same_place r t.place || b) (taken_is r takes)

map_long : (flat : Flat) (t : PlainTree) (o : Owners) → Shows flat t o → (m : ℕ) → m < t.geometry.memories → length (block_map flat m) ≡ 2048
map_long flat t o shows m less =
    let sized = (shows.images m less).sized in
    omega (arith, sized, length-take 2048 (drop 4096 (held_by flat m)), length-drop 4096 (held_by flat m))

-- ---- one map

module _ (fronts : FrontsArePut) (g : Geometry) (places : List Reference) (on : Bool) (flat new : Flat) (m : ℕ) (limits : IsWithinLimits g) (within : AllByRecursion (IsBlock g) places)
    (long : length (block_map flat m) ≡ 2048) where
  abbrev wanted : ℕ → Bool
  wanted b = cond (has_block places m b) on (is_used (block_map flat m) b)

  few : map_bytes g ≤ 2048
  few = let most = limits.blocks.1 in omega (arith, most)

  not_there : (b : ℕ) → has_block places m b ≡ false → wanted b ≡ is_used (block_map flat m) b
  not_there b none = ap (λ c. cond c on (is_used (block_map flat m) b)) none

  -- each bit is that of the blocks, or as it was
  pub bit_is : IsMapAfter g places on flat new m → (b : ℕ) → is_used (block_map new m) b ≡ wanted b
  bit_is (left none same) b = ap (λ (bits : List ℕ). is_used bits b) same ∙ sym (not_there b (none b))
  bit_is (put bits page wide own marked same) b =
      let sized = marked.sized in
      let put_in = fronts (block_map flat m) (map_bytes g) page (omega (arith, few, long)) (omega (arith, wide, sized)) in
      ap (λ (xs : List ℕ). is_used xs b) same
      ∙ elim (cases_lt (b / 8) (map_bytes g)) [
        | inl front ↦ (
            let inside : b < 8 * map_bytes g = omega (arith, front) in
            put_in.front b front ∙ marked.bits b
            ∙ ap (λ c. cond (has_block places m b) on c)
            (sym (used-take bits (map_bytes g) b inside) ∙ ap (λ (xs : List ℕ). is_used xs b) own ∙ used-take (block_map flat m) (map_bytes g) b inside))
        | inr rest ↦ put_in.rest b rest ∙ sym (not_there b (none_past g m b places (omega (arith, rest)) within))
      ]

-- ---- all maps

kept_some : (p : Option Owned) → is_some (kept_part keep_all p) ≡ is_some p
kept_some None = refl
kept_some (Some x) = refl

or_cond : (a b : Bool) → a || b ≡ cond b true a
or_cond true true = refl
or_cond true false = refl
or_cond false true = refl
or_cond false false = refl

pub marked_maps_tell : FrontsArePut → ExchangesAreOwners → MarkedMapsTell
marked_maps_tell fronts exchanges flat new t o es takes shows limits exchange maps =
    let g = t.geometry in
    let places = places_of takes in
    let within = places_within g es (only keep_all o) takes exchange.free in
    let exchanged = exchanges g es o keep_all takes exchange in
    record {
      bits = λ r block.
          bit_is fronts g places true flat new r.memory limits within (map_long flat t o shows r.memory block.memory) (maps r.memory block.memory) r.block
          ∙ ap (λ b. cond (has_block places r.memory r.block) true b) (shows.bits r block)
          ∙ ap (λ b. cond b true (is_some (o.owner r))) (sym (taken_is r takes))
          ∙ sym (or_cond (is_some (o.owner r)) (is_taken takes r))
          ∙ ap (λ b. b || is_taken takes r) (sym (kept_some (o.owner r)))
          ∙ sym (exchanged.bits r);
      no_block = λ m k less past small.
          bit_is fronts g places true flat new m limits within (map_long flat t o shows m less) (maps m less) k
          ∙ ap (λ b. cond b true (is_used (block_map flat m) k)) (none_past g m k places past within)
          ∙ (shows.images m less).no_block k past small;
    }

-- ---- blocks that are given up

given_by : (b : Bool) (x : Owned) → cond (not b) false (is_some (Some x)) ≡ is_some (cond b (Some x) None)
given_by true x = refl
given_by false x = refl

given_is : (keep : ℕ → Part → Bool) (p : Option Owned) → cond (is_given_up keep p) false (is_some p) ≡ is_some (kept_part keep p)
given_is keep None = refl
given_is keep (Some x) = given_by (keep x.file x.part) x

or_nothing : (a : Bool) → a ≡ a || false
or_nothing true = refl
or_nothing false = refl

pub freed_maps_tell : FrontsArePut → ExchangesAreOwners → FreedMapsTell
freed_maps_tell fronts exchanges flat new t o es keep freed shows limits exchange within given maps =
    let g = t.geometry in
    let exchanged = exchanges g es o keep [] exchange in
    record {
      bits = λ r block.
          bit_is fronts g freed false flat new r.memory limits within (map_long flat t o shows r.memory block.memory) (maps r.memory block.memory) r.block
          ∙ ap (λ b. cond (has_block freed r.memory r.block) false b) (shows.bits r block)
          ∙ ap (λ b. cond b false (is_some (o.owner r))) (given r block)
          ∙ given_is keep (o.owner r) ∙ or_nothing (is_some (kept_part keep (o.owner r))) ∙ sym (exchanged.bits r);
      no_block = λ m k less past small.
          bit_is fronts g freed false flat new m limits within (map_long flat t o shows m less) (maps m less) k
          ∙ ap (λ b. cond b false (is_used (block_map flat m) k)) (none_past g m k freed past within)
          ∙ (shows.images m less).no_block k past small;
    }
