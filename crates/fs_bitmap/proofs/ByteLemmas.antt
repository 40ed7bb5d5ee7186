-- The bits of one byte.
use Rattle.std.proofs.Common.{◌≡◌, ℕ, zero, suc, ◌+◌, ◌-◌, ◌*◌, ◌/◌, ◌^◌, ◌<◌, ◌≤◌, ◌≢◌, Bool, true, false, not, ◌&&◌, ◌||◌, cond, eqb, ltb, leb, refl, sym, ap, ◌∙◌, arith, bit_and, bit_or, inl, inr}
use Rattle.std.specs.Int.{w8, leading_ones, count_zeros}
use Rattle.std.proofs.lemmas.Bool.{agree_below_at, cases_lt, and_parts, or_cases, ltb-true, leb-true, eqb-true, ne_eqb, not-true}
use Rattle.std.specs.Int.{bit_at}
use Rattle.std.proofs.lemmas.Nat.Bits.{and_pow, bit_at-pow_same}
use Rattle.std.proofs.lemmas.Nat.{and_le_r, pow_pos, and_or_self, and_or_apart, and_assoc, and-not, pow_apart, pow_below}
use lib.Count.{count_leading_zeros, ones}
use Rattle.fs_bitmap.specs.Bits.{has_bit, free_in_byte}

-- the mask of a bit is a power of two
one_bit : (k : ℕ) → k < 8 → 128 / 2 ^ k ≡ 2 ^ (7 - k)
one_bit zero h = refl
one_bit (suc zero) h = refl
one_bit (suc (suc zero)) h = refl
one_bit (suc (suc (suc zero))) h = refl
one_bit (suc (suc (suc (suc zero)))) h = refl
one_bit (suc (suc (suc (suc (suc zero))))) h = refl
one_bit (suc (suc (suc (suc (suc (suc zero)))))) h = refl
one_bit (suc (suc (suc (suc (suc (suc (suc zero))))))) h = refl
one_bit (suc (suc (suc (suc (suc (suc (suc (suc k)))))))) h = absurd (omega arith)

-- a full byte has each bit
full_byte : (k : ℕ) → k < 8 → has_bit 255 k ≡ true
unfolding has_bit
full_byte zero h = refl
full_byte (suc zero) h = refl
full_byte (suc (suc zero)) h = refl
full_byte (suc (suc (suc zero))) h = refl
full_byte (suc (suc (suc (suc zero)))) h = refl
full_byte (suc (suc (suc (suc (suc zero))))) h = refl
full_byte (suc (suc (suc (suc (suc (suc zero)))))) h = refl
full_byte (suc (suc (suc (suc (suc (suc (suc zero))))))) h = refl
full_byte (suc (suc (suc (suc (suc (suc (suc (suc k)))))))) h = absurd (omega arith)

pub full_has : (byte k : ℕ) → byte ≡ 255 → k < 8 → has_bit byte k ≡ true
full_has byte k is h = ap (λ (b : ℕ). has_bit b k) is ∙ full_byte k h

-- ---- the first free bit

-- whether a byte has all bits before the k-th
abbrev has_all_before : ℕ → ℕ → Bool
has_all_before byte zero = true
has_all_before byte (suc k) = has_all_before byte k && has_bit byte k

has_before : (byte n : ℕ) → has_all_before byte n ≡ true → (k : ℕ) → k < n → has_bit byte k ≡ true
has_before byte zero all k h = absurd (omega arith)
has_before byte (suc n) all k h =
    elim (cases_lt k n) [
      | inl below ↦ has_before byte n (and_parts _ _ all).0 k below
      | inr past ↦ let e : k ≡ n = omega arith in ap (has_bit byte) e ∙ (and_parts _ _ all).1
    ]

-- the number of ones at the front of a byte that is not full is its first free bit
leads : ℕ → Bool
leads byte = leb 255 byte || (ltb (leading_ones w8 byte) 8 && (not (has_bit byte (leading_ones w8 byte)) && has_all_before byte (leading_ones w8 byte)))

leads_always : (byte : ℕ) → byte < 256 → leads byte ≡ true
unfolding leads has_bit count_leading_zeros
leads_always byte h = agree_below_at leads (λ _. true) 256 byte refl h

pub first_is_free : (byte : ℕ) → byte < 256 → byte ≢ 255
    → (leading_ones w8 byte < 8) × (has_bit byte (leading_ones w8 byte) ≡ false) × ((k : ℕ) → k < leading_ones w8 byte → has_bit byte k ≡ true)
unfolding leads
first_is_free byte small other =
    elim (or_cases _ _ (leads_always byte small)) [
      | inl full ↦ let h : 255 ≤ byte = leb-true _ _ full in absurd (other (omega arith))
      | inr rest ↦
          let parts = and_parts _ _ rest in
          let more = and_parts _ _ parts.1 in
          (ltb-true _ _ parts.0, not-true _ more.0, has_before byte (leading_ones w8 byte) more.1)
    ]

-- ---- counts

pub free_in_byte_le : (byte n : ℕ) → free_in_byte byte n ≤ n
unfolding free_in_byte
free_in_byte_le byte zero = omega arith
free_in_byte_le byte (suc n) = elim (has_bit byte n) as (λ b. free_in_byte byte n + cond b 0 1 ≤ suc n) [ true ↦ omega (arith, free_in_byte_le byte n) | false ↦ omega (arith, free_in_byte_le byte n) ]

-- the zeros of a byte are its free bits
counts : ℕ → Bool
counts byte = eqb (count_zeros w8 byte) (free_in_byte byte 8)

pub zeros_are_free : (byte : ℕ) → byte < 256 → count_zeros w8 byte ≡ free_in_byte byte 8
unfolding counts has_bit free_in_byte ones
zeros_are_free byte h = eqb-true _ _ (agree_below_at counts (λ _. true) 256 byte refl h)

-- where the bits behind the first n are set, the zeros are the free ones of those
counts_some : ℕ → ℕ → Bool
counts_some n byte = eqb (count_zeros w8 (bit_or byte (255 / 2 ^ n))) (free_in_byte byte n)

zeros_behind_0 : (byte : ℕ) → byte < 256 → count_zeros w8 (bit_or byte (255 / 2 ^ 0)) ≡ free_in_byte byte 0
unfolding counts_some has_bit free_in_byte ones
zeros_behind_0 byte h = eqb-true _ _ (agree_below_at (counts_some 0) (λ _. true) 256 byte refl h)

zeros_behind_1 : (byte : ℕ) → byte < 256 → count_zeros w8 (bit_or byte (255 / 2 ^ 1)) ≡ free_in_byte byte 1
unfolding counts_some has_bit free_in_byte ones
zeros_behind_1 byte h = eqb-true _ _ (agree_below_at (counts_some 1) (λ _. true) 256 byte refl h)

zeros_behind_2 : (byte : ℕ) → byte < 256 → count_zeros w8 (bit_or byte (255 / 2 ^ 2)) ≡ free_in_byte byte 2
unfolding counts_some has_bit free_in_byte ones
zeros_behind_2 byte h = eqb-true _ _ (agree_below_at (counts_some 2) (λ _. true) 256 byte refl h)

zeros_behind_3 : (byte : ℕ) → byte < 256 → count_zeros w8 (bit_or byte (255 / 2 ^ 3)) ≡ free_in_byte byte 3
unfolding counts_some has_bit free_in_byte ones
zeros_behind_3 byte h = eqb-true _ _ (agree_below_at (counts_some 3) (λ _. true) 256 byte refl h)

zeros_behind_4 : (byte : ℕ) → byte < 256 → count_zeros w8 (bit_or byte (255 / 2 ^ 4)) ≡ free_in_byte byte 4
unfolding counts_some has_bit free_in_byte ones
zeros_behind_4 byte h = eqb-true _ _ (agree_below_at (counts_some 4) (λ _. true) 256 byte refl h)

zeros_behind_5 : (byte : ℕ) → byte < 256 → count_zeros w8 (bit_or byte (255 / 2 ^ 5)) ≡ free_in_byte byte 5
unfolding counts_some has_bit free_in_byte ones
zeros_behind_5 byte h = eqb-true _ _ (agree_below_at (counts_some 5) (λ _. true) 256 byte refl h)

zeros_behind_6 : (byte : ℕ) → byte < 256 → count_zeros w8 (bit_or byte (255 / 2 ^ 6)) ≡ free_in_byte byte 6
unfolding counts_some has_bit free_in_byte ones
zeros_behind_6 byte h = eqb-true _ _ (agree_below_at (counts_some 6) (λ _. true) 256 byte refl h)

zeros_behind_7 : (byte : ℕ) → byte < 256 → count_zeros w8 (bit_or byte (255 / 2 ^ 7)) ≡ free_in_byte byte 7
unfolding counts_some has_bit free_in_byte ones
zeros_behind_7 byte h = eqb-true _ _ (agree_below_at (counts_some 7) (λ _. true) 256 byte refl h)

pub some_zeros_are_free : (byte n : ℕ) → byte < 256 → n < 8 → count_zeros w8 (bit_or byte (255 / 2 ^ n)) ≡ free_in_byte byte n
some_zeros_are_free byte zero h le = zeros_behind_0 byte h
some_zeros_are_free byte (suc zero) h le = zeros_behind_1 byte h
some_zeros_are_free byte (suc (suc zero)) h le = zeros_behind_2 byte h
some_zeros_are_free byte (suc (suc (suc zero))) h le = zeros_behind_3 byte h
some_zeros_are_free byte (suc (suc (suc (suc zero)))) h le = zeros_behind_4 byte h
some_zeros_are_free byte (suc (suc (suc (suc (suc zero))))) h le = zeros_behind_5 byte h
some_zeros_are_free byte (suc (suc (suc (suc (suc (suc zero)))))) h le = zeros_behind_6 byte h
some_zeros_are_free byte (suc (suc (suc (suc (suc (suc (suc zero))))))) h le = zeros_behind_7 byte h
some_zeros_are_free byte (suc (suc (suc (suc (suc (suc (suc (suc n)))))))) h le = absurd (omega arith)

-- ---- a bit that is set or freed

-- a test of a bit, by the power of two that is its mask
has_pow : (byte k : ℕ) → k < 8 → has_bit byte k ≡ not (eqb (bit_and byte (2 ^ (7 - k))) 0)
unfolding has_bit
has_pow byte k h = ap (λ (m : ℕ). not (eqb (bit_and byte m) 0)) (one_bit k h)

pub or_same : (byte i : ℕ) → i < 8 → has_bit (bit_or byte (128 / 2 ^ i)) i ≡ true
or_same byte i h =
    let m = 2 ^ (7 - i) in
    let some : m ≡ 0 → ⊥ = λ e. let positive = pow_pos (7 - i) in omega arith in
    has_pow (bit_or byte (128 / 2 ^ i)) i h
    ∙ ap (λ (k : ℕ). not (eqb (bit_and (bit_or byte k) m) 0)) (one_bit i h)
    ∙ ap (λ (k : ℕ). not (eqb k 0)) (and_or_self m byte)
    ∙ ap not (ne_eqb m 0 some)

apart : (i j : ℕ) → i < 8 → j < 8 → j ≢ i → bit_and (2 ^ (7 - i)) (2 ^ (7 - j)) ≡ 0
apart i j h k other = pow_apart (7 - i) (7 - j) (λ e. other (omega arith))

pub or_other : (byte i j : ℕ) → i < 8 → j < 8 → j ≢ i → has_bit (bit_or byte (128 / 2 ^ i)) j ≡ has_bit byte j
or_other byte i j h k other =
    has_pow (bit_or byte (128 / 2 ^ i)) j k
    ∙ ap (λ (m : ℕ). not (eqb (bit_and (bit_or byte m) (2 ^ (7 - j))) 0)) (one_bit i h)
    ∙ ap (λ (n : ℕ). not (eqb n 0)) (and_or_apart (2 ^ (7 - j)) byte (2 ^ (7 - i)) (apart i j h k other))
    ∙ sym (has_pow byte j k)

small : (i : ℕ) → 2 ^ (7 - i) < 2 ^ 8
small i = pow_below (7 - i) 8 (omega arith)

-- the other masks of a byte, and a mask
not_same : (k : ℕ) → 2 ^ k < 2 ^ 8 → bit_and (255 - 2 ^ k) (2 ^ k) ≡ 0
not_same k h =
    let self : bit_and (2 ^ k) (2 ^ k) ≡ bit_at (2 ^ k) k * 2 ^ k = and_pow (2 ^ k) k in
    let one : bit_at (2 ^ k) k * 2 ^ k ≡ 1 * 2 ^ k = ap (λ (n : ℕ). n * 2 ^ k) (bit_at-pow_same k) in
    let whole : bit_and (255 - 2 ^ k) (2 ^ k) + bit_and (2 ^ k) (2 ^ k) ≡ 2 ^ k = and-not 8 (2 ^ k) (2 ^ k) h h in
    omega (arith, self, one, whole)

not_other : (m n : ℕ) → m < 2 ^ 8 → n < 2 ^ 8 → bit_and m n ≡ 0 → bit_and (255 - m) n ≡ n
not_other m n h k apart = let whole : bit_and (255 - m) n + bit_and m n ≡ n = and-not 8 m n h k in omega (arith, whole, apart)

pub not_has_same : (byte i : ℕ) → i < 8 → has_bit (bit_and byte (255 - 128 / 2 ^ i)) i ≡ false
not_has_same byte i h =
    let m = 2 ^ (7 - i) in
    let none : bit_and byte 0 ≡ 0 = omega (arith, and_le_r byte 0) in
    has_pow (bit_and byte (255 - 128 / 2 ^ i)) i h
    ∙ ap (λ (k : ℕ). not (eqb (bit_and (bit_and byte (255 - k)) m) 0)) (one_bit i h)
    ∙ ap (λ (k : ℕ). not (eqb k 0)) (and_assoc m byte (255 - m) ∙ ap (bit_and byte) (not_same (7 - i) (small i)) ∙ none)

pub not_has_other : (byte i j : ℕ) → i < 8 → j < 8 → j ≢ i → has_bit (bit_and byte (255 - 128 / 2 ^ i)) j ≡ has_bit byte j
not_has_other byte i j h k other =
    let m = 2 ^ (7 - i) in
    let n = 2 ^ (7 - j) in
    has_pow (bit_and byte (255 - 128 / 2 ^ i)) j k
    ∙ ap (λ (x : ℕ). not (eqb (bit_and (bit_and byte (255 - x)) n) 0)) (one_bit i h)
    ∙ ap (λ (x : ℕ). not (eqb x 0)) (and_assoc n byte (255 - m) ∙ ap (bit_and byte) (not_other m n (small i) (small j) (apart i j h k other)))
    ∙ sym (has_pow byte j k)
