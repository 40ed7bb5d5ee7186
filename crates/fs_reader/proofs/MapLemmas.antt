-- The maps of the blocks of all images, one behind the other.
use Rattle.std.proofs.Common.{◌≡◌, ℕ, zero, suc, ◌+◌, ◌*◌, ◌<◌, ◌≤◌, Bool, false, List, [], inl, inr, refl, sym, ap, subst, ◌∙◌, arith}
use Rattle.std.specs.Prelude.{◌/◌, ◌%◌, ◌++◌, length, get_or, slice_index, Some, if◌then◌else◌}
use Rattle.std.proofs.Math.ListN.{get_or-append}
use Rattle.std.proofs.lemmas.Bool.{cases_Bool, cases_lt}
use Rattle.std.proofs.lemmas.List.{get_or-append-add, length-append}
use Rattle.std.proofs.lemmas.Option.{slice_get-get_or}
use Rattle.fs_bitmap.specs.Bits.{has_bit, is_used, free_below}
use Rattle.fs_image.proofs.OwnerLemmas.{some_same}
use Rattle.mini_tx.specs.FlatMemory.{Flat, held_by, bytes_at}
use Rattle.fs_image.specs.Places.{block_map}

-- the maps of so many images stand in a list
pub record HoldMaps (flat : Flat) (memories : ℕ) (maps : List ℕ) : Type 0 where
  pub sized : length maps ≡ 2048 * memories
  pub bits : (m bit : ℕ) → m < memories → bit < 16384 → is_used maps (16384 * m + bit) ≡ is_used (block_map flat m) bit

module _ (flat : Flat) (i : ℕ) (maps part bytes : List ℕ) (is : part ≡ get_or flat i part) (there : i < length flat) (bytes_is : bytes ≡ bytes_at part 4096 2048) (len : length bytes ≡ 2048)
    (hold : HoldMaps flat i maps)
  where
    part_is : held_by flat i ≡ part
    part_is =
        some_same (held_by flat i) part
        (sym (slice_get-get_or flat i [] there) ∙ slice_get-get_or flat i part there ∙ ap Some (sym is))

    bits_of : (m bit : ℕ) → m < i + 1 → bit < 16384 → is_used (maps ++ bytes) (16384 * m + bit) ≡ is_used (block_map flat m) bit
    bits_of m bit below within =
        let byte : (16384 * m + bit) / 8 ≡ 2048 * m + bit / 8 = omega arith in
        let rest : (16384 * m + bit) % 8 ≡ bit % 8 = omega arith in
        elim (cases_lt m i) [
          | inl before ↦
              ap (λ k. has_bit k ((16384 * m + bit) % 8)) (get_or-append maps bytes 0 ((16384 * m + bit) / 8) (omega (arith, byte, before, within, hold.sized)))
              ∙ hold.bits m bit before within
          | inr not_before ↦
              let same : m ≡ i = omega (arith, below, not_before) in
              let place : (16384 * m + bit) / 8 ≡ length maps + bit / 8 = omega (arith, byte, same, hold.sized) in
              (λ j. has_bit (slice_index (maps ++ bytes) (place j)) (rest j))
              ∙ ap (λ k. has_bit k (bit % 8)) (get_or-append-add maps bytes (bit / 8) 0)
              ∙ ap (λ bs. is_used bs bit) (bytes_is ∙ ap (λ p. bytes_at p 4096 2048) (sym part_is) ∙ ap (block_map flat) (sym same))
        ]

    pub maps_more : HoldMaps flat (i + 1) (maps ++ bytes)
    maps_more = record { sized = omega (arith, len, hold.sized, length-append maps bytes); bits = bits_of }

pub no_maps : (flat : Flat) → HoldMaps flat 0 []
no_maps flat = record { sized = refl; bits = λ m bit below within. absurd (omega (arith, below)) }

-- ---- how many are free

pub some_free : (map : List ℕ) (bits : ℕ) → free_below map bits ≤ bits
unfolding free_below
some_free map zero = omega arith
some_free map (suc bit) = let fewer = some_free map bit in elim (cases_Bool (is_used map bit)) [
  | inl used ↦ subst (λ (b : Bool). free_below map bit + (if b then 0 else 1) ≤ suc bit) (sym used) (omega (arith, fewer))
  | inr free ↦ subst (λ (b : Bool). free_below map bit + (if b then 0 else 1) ≤ suc bit) (sym free) (omega (arith, fewer))
]

pub all_free : (map : List ℕ) (bits : ℕ) → free_below map bits ≡ bits → (bit : ℕ) → bit < bits → is_used map bit ≡ false
unfolding free_below
all_free map zero all bit below = absurd (omega (arith, below))
all_free map (suc last) all bit below = elim (cases_Bool (is_used map last)) [
  | inl used ↦
      let fewer = some_free map last in
      let same : free_below map last + 0 ≡ suc last = ap (λ (b : Bool). free_below map last + (if b then 0 else 1)) (sym used) ∙ all in
      absurd (omega (arith, fewer, same))
  | inr free ↦
      let same : free_below map last + 1 ≡ suc last = ap (λ (b : Bool). free_below map last + (if b then 0 else 1)) (sym free) ∙ all in
      elim (cases_lt bit last) [
        | inl before ↦ all_free map last (omega (arith, same)) bit before
        | inr not_before ↦ let here : bit ≡ last = omega (arith, below, not_before) in ap (is_used map) here ∙ free
      ]
]

pub free_all : (map : List ℕ) (bits : ℕ) → ((bit : ℕ) → bit < bits → is_used map bit ≡ false) → free_below map bits ≡ bits
unfolding free_below
free_all map zero free = refl
free_all map (suc last) free =
    let fewer = free_all map last (λ bit below. free bit (omega (arith, below))) in
    let here = free last (omega arith) in
    subst (λ (b : Bool). free_below map last + (if b then 0 else 1) ≡ suc last) (sym here) (omega (arith, fewer))
