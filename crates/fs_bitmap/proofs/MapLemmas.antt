-- The bits of a map.
use Rattle.std.proofs.Common.{◌≡◌, ℕ, zero, suc, ◌+◌, ◌-◌, ◌*◌, ◌/◌, ◌%◌, ◌<◌, ◌≤◌, ◌≢◌, Bool, true, false, cond, List, length, get_or, take, refl, sym, ap, ◌∙◌, arith, inl, inr}
use Rattle.std.specs.Prelude.{slice_set}
use Rattle.std.proofs.lemmas.Bool.{cases_lt, cases_eq}
use Rattle.std.proofs.lemmas.List.{get_or-take, get_or-set_same, get_or-set_other}
use Rattle.fs_bitmap.specs.Bits.{has_bit, is_used, IsLowestFree, IsNoneFree, free_in_byte, free_below}
use Rattle.fs_bitmap.proofs.ByteLemmas.{full_has}

-- a bit of a map is one of its byte
pub used_at : (map : List ℕ) (i j : ℕ) → j < 8 → is_used map (8 * i + j) ≡ has_bit (get_or map i 0) j
used_at map i j h =
    let byte : (8 * i + j) / 8 ≡ i = omega arith in
    let place : (8 * i + j) % 8 ≡ j = omega arith in
    ap (λ (b : ℕ). has_bit (get_or map b 0) ((8 * i + j) % 8)) byte ∙ ap (has_bit (get_or map i 0)) place

-- the bits of full bytes are used
pub full_used : (map : List ℕ) (n : ℕ) → ((k : ℕ) → k < n → get_or map k 0 ≡ 255) → (k : ℕ) → k < 8 * n → is_used map k ≡ true
full_used map n full k h = full_has (get_or map (k / 8) 0) (k % 8) (full (k / 8) (omega arith)) (omega arith)

-- behind full bytes, the first free bit of the next one is the lowest
pub lowest_at : (map : List ℕ) (n i j : ℕ) → i < n → j < 8 → ((k : ℕ) → k < i → get_or map k 0 ≡ 255) → has_bit (get_or map i 0) j ≡ false
    → ((k : ℕ) → k < j → has_bit (get_or map i 0) k ≡ true) → IsLowestFree map (8 * n) (8 * i + j)
lowest_at map n i j inside small full free before = record {
  within = omega arith;
  free = used_at map i j small ∙ free;
  before = λ k h.
      elim (cases_lt k (8 * i)) [
        | inl below ↦ full_used map i full k below
        | inr past ↦
            let split : 8 * i + (k - 8 * i) ≡ k = omega arith in
            ap (is_used map) (sym split) ∙ used_at map i (k - 8 * i) (omega arith) ∙ before (k - 8 * i) (omega arith)
      ];
}

-- a bit of the first bytes
pub used-take : (map : List ℕ) (n k : ℕ) → k < 8 * n → is_used (take n map) k ≡ is_used map k
used-take map n k h = ap (λ (b : ℕ). has_bit b (k % 8)) (get_or-take n map (k / 8) 0 (omega arith))

-- the lowest free bit of the first bytes is that of fewer bits too, where it is among them
pub lowest_of_fewer : (map : List ℕ) (n m bits bit : ℕ) → m ≡ 8 * n → bits ≤ m → bit < bits → IsLowestFree (take n map) m bit → IsLowestFree map bits bit
lowest_of_fewer map n m bits bit is fewer below lowest = record {
  within = below;
  free = sym (used-take map n bit (omega arith)) ∙ lowest.free;
  before = λ k h. sym (used-take map n k (omega arith)) ∙ lowest.before k h;
}

pub none_of_fewer : (map : List ℕ) (n m bits : ℕ) → m ≡ 8 * n → bits ≤ m → ((k : ℕ) → k < bits → is_used (take n map) k ≡ true) → IsNoneFree map bits
none_of_fewer map n m bits is fewer none k h = sym (used-take map n k (omega arith)) ∙ none k h

-- ---- counts

-- the free bits up to one of the next byte
pub free_more : (map : List ℕ) (i n : ℕ) → n ≤ 8 → free_below map (8 * i + n) ≡ free_below map (8 * i) + free_in_byte (get_or map i 0) n
unfolding free_below free_in_byte
free_more map i zero le = let none : 8 * i + 0 ≡ 8 * i = omega arith in ap (free_below map) none ∙ omega arith
free_more map i (suc n) le =
    let next : 8 * i + suc n ≡ suc (8 * i + n) = omega arith in
    ap (free_below map) next
    ∙ ap (λ (b : Bool). free_below map (8 * i + n) + cond b 0 1) (used_at map i n (omega arith))
    ∙ omega (arith, free_more map i n (omega arith))

pub free_below_le : (map : List ℕ) (n : ℕ) → free_below map n ≤ n
unfolding free_below
free_below_le map zero = omega arith
free_below_le map (suc n) =
    elim (is_used map n) as (λ b. free_below map n + cond b 0 1 ≤ suc n) [ true ↦ omega (arith, free_below_le map n) | false ↦ omega (arith, free_below_le map n) ]

-- the free bits of one byte more
pub free_next : (map : List ℕ) (i n free zeros : ℕ) → i < n → free ≡ free_below map (8 * i) → zeros ≡ free_in_byte (get_or (take n map) i 0) 8
    → free + zeros ≡ free_below map (8 * (i + 1))
free_next map i n free zeros inside so_far is =
    let byte : get_or (take n map) i 0 ≡ get_or map i 0 = get_or-take n map i 0 inside in
    let here : zeros ≡ free_in_byte (get_or map i 0) 8 = is ∙ ap (λ (b : ℕ). free_in_byte b 8) byte in
    let end : 8 * (i + 1) ≡ 8 * i + 8 = omega arith in
    let more = free_more map i 8 (omega arith) in
    let sum : free + zeros ≡ free_below map (8 * i) + free_in_byte (get_or map i 0) 8 = omega (arith, so_far, here) in
    sum ∙ sym more ∙ ap (free_below map) (sym end)

-- ---- one bit changed

pub set_changed : (map : List ℕ) (bit byte : ℕ) (on : Bool) → bit < 8 * length map → has_bit byte (bit % 8) ≡ on → is_used (slice_set map (bit / 8) byte) bit ≡ on
set_changed map bit byte on inside is =
    let within : bit / 8 < length map = omega arith in
    ap (λ (b : ℕ). has_bit b (bit % 8)) (get_or-set_same map (bit / 8) byte 0 within) ∙ is

pub set_others : (map : List ℕ) (bit byte : ℕ) → bit < 8 * length map → ((j : ℕ) → j < 8 → j ≢ bit % 8 → has_bit byte j ≡ has_bit (get_or map (bit / 8) 0) j)
    → (k : ℕ) → k ≢ bit → is_used (slice_set map (bit / 8) byte) k ≡ is_used map k
set_others map bit byte inside others k other =
    let within : bit / 8 < length map = omega arith in
    elim (cases_eq (k / 8) (bit / 8)) [
      | inl same ↦
          ap (λ (n : ℕ). has_bit (get_or (slice_set map (bit / 8) byte) n 0) (k % 8)) same
          ∙ ap (λ (b : ℕ). has_bit b (k % 8)) (get_or-set_same map (bit / 8) byte 0 within)
          ∙ others (k % 8) (omega arith) (λ e. other (omega (arith, e, same)))
          ∙ ap (λ (n : ℕ). has_bit (get_or map n 0) (k % 8)) (sym same)
      | inr apart ↦ ap (λ (b : ℕ). has_bit b (k % 8)) (get_or-set_other map (bit / 8) (k / 8) byte 0 apart)
    ]

pub free_none : (map : List ℕ) → free_below map 0 ≡ 0
unfolding free_below
free_none map = refl
