-- The bits of a map whose first bytes are others.
use Rattle.std.proofs.Common.{◌≡◌, ℕ, ◌+◌, ◌-◌, ◌<◌, ◌≤◌, List, length, take, drop, ap, ◌∙◌, arith}
use Rattle.std.specs.Prelude.{◌/◌, ◌%◌, slice_index}
use Rattle.std.proofs.lemmas.List.{get_or_append_left, get_or-append_right, get_or-take, get_or-drop, length-take-le}
use Rattle.fs_bitmap.specs.Bits.{has_bit}
use Rattle.image_puts.specs.Maps.{FrontsArePut, with_front}

module _ (map : List ℕ) (n : ℕ) (page : List ℕ) (within : n ≤ length map) (long : n ≤ length page) where
  size : length (take n page) ≡ n
  size = length-take-le n page long

  front_byte : (i : ℕ) → i < n → slice_index (with_front map n page) i ≡ slice_index page i
  front_byte i less =
      get_or_append_left (take n page) (drop (0 + length (take n page)) map) 0 i (omega (arith, less, size)) ∙ get_or-take n page i 0 less

  rest_byte : (i : ℕ) → n ≤ i → slice_index (with_front map n page) i ≡ slice_index map i
  rest_byte i more =
      let here : 0 + length (take n page) ≡ n = omega (arith, size) in
      let there : n + (i - n) ≡ i = omega (arith, more) in
      get_or-append_right (take n page) (drop (0 + length (take n page)) map) n i 0 size more
      ∙ ap (λ k. slice_index (drop k map) (i - n)) here ∙ get_or-drop n map (i - n) 0 ∙ ap (slice_index map) there

pub fronts_are_put : FrontsArePut
fronts_are_put map n page within long =
    record {
      front = λ bit less. ap (λ byte. has_bit byte (bit % 8)) (front_byte map n page within long (bit / 8) less);
      rest = λ bit more. ap (λ byte. has_bit byte (bit % 8)) (rest_byte map n page within long (bit / 8) more);
    }
