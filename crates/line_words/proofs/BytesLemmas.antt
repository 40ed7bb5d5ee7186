-- Words that spell bytes, two hexadecimal digits each.
use Rattle.std.proofs.Common.{◌≡◌, ℕ, zero, suc, ◌+◌, ◌-◌, ◌*◌, ◌/◌, ◌%◌, ◌<◌, ◌≤◌, ◌==◌, ◌≢◌, Bool, true, false, ◌&&◌, ◌||◌, not, cond, nat_le, nat_lt, List, [], ◌∷◌, length, slice_index, Option, Some, None, Ok, Err, ◌⊎◌, inl, inr, refl, sym, ap, ◌∙◌, arith}
use Rattle.std.specs.List.{list_all}
use Rattle.std.specs.Result.{result_ok}
use Rattle.std.proofs.lemmas.Bool.{agree_below_at, and_from, and_parts, cases_eq, eqb-true, le-leb, leb-true, ltb-true, or_cases}
use Rattle.std.proofs.lemmas.Option.{same_Some}
use Rattle.sfs_base.specs.Reading.{IsBytes}
use Rattle.hex.specs.Hex.{decode_of, decode_sized, encode_lower, encode_with, lower_digits}
use Rattle.hex.proofs.HexLemmas.{decode_of-encode_lower, decode_of-odd, length-encode_with}
use Rattle.hex.specs.declared.error.FromHexError.{FromHexError}
use Rattle.hex.specs.declared.error.FromHexError.TheVariants.{InvalidHexCharacter, OddLength, InvalidStringLength, OutOfMemory}
use Rattle.line_words.specs.Digits.{fault_of}
use Rattle.line_words.specs.Reading.{◌>>=◌, Answers, byte_of, only_byte}
use Rattle.line_words.specs.Words.{bytes_of, is_lower_hex_digit, IsDatagram}
use Rattle.line_words.specs.declared.limits.TheConstants.{MAX_DATAGRAM_BYTES}

-- ---- one digit

-- the value of a digit
abbrev digit_place : ℕ → ℕ
digit_place c = cond (nat_le 97 c) (c - 87) (c - 48)

-- the test that a digit stands at its value among the sixteen, which computes
abbrev stands_at_place : ℕ → Bool
stands_at_place c = not (is_lower_hex_digit c) || (nat_lt (digit_place c) 16 && slice_index lower_digits (digit_place c) == c)

-- a digit is less than 103
digit_small : (c : ℕ) → is_lower_hex_digit c ≡ true → c < 103
digit_small c digit = grind arith

-- a digit is one of the sixteen
digit_at : (c : ℕ) → is_lower_hex_digit c ≡ true → (v : ℕ) × (v < 16) × (slice_index lower_digits v ≡ c)
digit_at c digit =
    let tested : stands_at_place c ≡ true = agree_below_at stands_at_place (λ _. true) 103 c refl (digit_small c digit) in
    elim (or_cases (not (is_lower_hex_digit c)) _ tested) [
      | inl none ↦ cc (none, digit)
      | inr both ↦
          let parts = and_parts (nat_lt (digit_place c) 16) (slice_index lower_digits (digit_place c) == c) both in
          (digit_place c, ltb-true (digit_place c) 16 parts.0, eqb-true (slice_index lower_digits (digit_place c)) c parts.1)
    ]

-- each of the sixteen is a digit
digit_from : (v : ℕ) → v < 16 → is_lower_hex_digit (slice_index lower_digits v) ≡ true
digit_from v small = agree_below_at (λ d. is_lower_hex_digit (slice_index lower_digits d)) (λ _. true) 16 v refl small

-- ---- words

-- a byte in front of bytes
IsBytes-cons : (b : ℕ) (rest : List ℕ) → b < 256 → IsBytes rest → IsBytes (b ∷ rest)
IsBytes-cons b rest first others zero = first
IsBytes-cons b rest first others (suc i) = others i

-- two digits for each byte
record Pairs (word bytes : List ℕ) : Type 0 where
  spelled : word ≡ encode_lower bytes
  each : IsBytes bytes

-- an even number of digits spells bytes
pairs_of : (word : List ℕ) → length word % 2 ≡ 0 → list_all is_lower_hex_digit word ≡ true → (bytes : List ℕ) × Pairs word bytes
unfolding encode_with
pairs_of [] even digits = ([], record { spelled = refl; each = λ i. omega arith })
pairs_of (a ∷ []) even digits = absurd (omega arith)
pairs_of (a ∷ b ∷ rest) even digits =
    let first = and_parts (is_lower_hex_digit a) _ digits in
    let second = and_parts (is_lower_hex_digit b) (list_all is_lower_hex_digit rest) first.1 in
    let high = digit_at a first.0 in
    let low = digit_at b second.0 in
    let others = pairs_of rest (omega arith) second.1 in
    let above : (high.0 * 16 + low.0) / 16 ≡ high.0 = omega (arith, high.1, low.1) in
    let below : (high.0 * 16 + low.0) % 16 ≡ low.0 = omega (arith, high.1, low.1) in
    let fits : high.0 * 16 + low.0 < 256 = omega (arith, high.1, low.1) in (
      (high.0 * 16 + low.0) ∷ others.0,
      record {
        spelled = rw (above, below, high.2, low.2) (ap (λ (r : List ℕ). a ∷ b ∷ r) others.1.spelled);
        each = IsBytes-cons (high.0 * 16 + low.0) others.0 fits others.1.each;
      },
    )

-- spelled bytes are digits
pub digits_of_encode : (bytes : List ℕ) → IsBytes bytes → list_all is_lower_hex_digit (encode_lower bytes) ≡ true
unfolding encode_with
digits_of_encode [] each = refl
digits_of_encode (b ∷ rest) each =
    let fits : b < 256 = each 0 in
    and_from (is_lower_hex_digit (slice_index lower_digits (b / 16))) _ (digit_from (b / 16) (omega arith))
    (and_from (is_lower_hex_digit (slice_index lower_digits (b % 16))) _ (digit_from (b % 16) (omega arith)) (digits_of_encode rest (λ i. each (suc i))))

-- a choice that gave a value
choice_some : {A : Type 0} (b : Bool) (o : Option A) (x : A) → cond b o None ≡ Some x → (b ≡ true) × (o ≡ Some x)
choice_some true o x is = (refl, is)
choice_some false o x is = cc is

-- what decodes has an even number of digits
even_where_read : (word bytes : List ℕ) → result_ok (decode_of word) ≡ Some bytes → length word % 2 ≡ 0
even_where_read word bytes read =
    elim (cases_eq (length word % 2) 1) [
      | inl odd ↦ cc (sym (ap result_ok (decode_of-odd word odd)) ∙ read)
      | inr even ↦ omega arith
    ]

-- where the digits of a word were refused, the word spells no bytes, or memory was missing for them
pub bytes_of-refused : (word : List ℕ) (e : FromHexError) → 2 ≤ length word → length word ≤ 2 * MAX_DATAGRAM_BYTES
    → list_all is_lower_hex_digit word ≡ true → (e ≡ OutOfMemory) ⊎ (decode_of word ≡ Err e)
    → (length word % 2 ≡ 1 → e ≡ OddLength) → Answers {X = List ℕ} (Err (fault_of e)) (bytes_of word)
bytes_of-refused word e some within digits refused odd =
    rw (le-leb 2 (length word) some, le-leb (length word) (2 * MAX_DATAGRAM_BYTES) within, digits) (go e refused odd)
  where
    even_unless_odd : (length word % 2 ≡ 1 → OutOfMemory ≡ OddLength) → length word % 2 ≡ 0
    even_unless_odd odd = elim (cases_eq (length word % 2) 1) [ inl is ↦ cc (odd is) | inr even ↦ omega arith ]

    go : (e : FromHexError) → (e ≡ OutOfMemory) ⊎ (decode_of word ≡ Err e) → (length word % 2 ≡ 1 → e ≡ OddLength)
        → Answers {X = List ℕ} (Err (fault_of e)) (result_ok (decode_of word))
    go (InvalidHexCharacter c index) (inl none) odd = cc none
    go (InvalidHexCharacter c index) (inr is) odd = rw is refl
    go OddLength (inl none) odd = cc none
    go OddLength (inr is) odd = rw is refl
    go InvalidStringLength (inl none) odd = cc none
    go InvalidStringLength (inr is) odd = rw is refl
    go OutOfMemory refused odd =
        let found = pairs_of word (even_unless_odd odd) digits in
        let read : decode_of word ≡ Ok found.0 = ap decode_of found.1.spelled ∙ decode_of-encode_lower found.0 found.1.each in
        rw read refl

-- a word that spells bytes is their digits
pub bytes_of-Some : (word bytes : List ℕ) → bytes_of word ≡ Some bytes → IsDatagram bytes × (word ≡ encode_lower bytes)
bytes_of-Some word bytes read =
    let chosen = choice_some (nat_le 2 (length word) && nat_le (length word) (2 * MAX_DATAGRAM_BYTES) && list_all is_lower_hex_digit word) (result_ok (decode_of word)) bytes read in
    let outer = and_parts (nat_le 2 (length word) && nat_le (length word) (2 * MAX_DATAGRAM_BYTES)) (list_all is_lower_hex_digit word) chosen.0 in
    let inner = and_parts (nat_le 2 (length word)) (nat_le (length word) (2 * MAX_DATAGRAM_BYTES)) outer.0 in
    let found = pairs_of word (even_where_read word bytes chosen.1) outer.1 in
    let decoded : decode_of word ≡ Ok found.0 = ap decode_of found.1.spelled ∙ decode_of-encode_lower found.0 found.1.each in
    let same : found.0 ≡ bytes = same_Some found.0 bytes (sym (ap result_ok decoded) ∙ chosen.1) in
    let size : length word ≡ 2 * length found.0 = ap length found.1.spelled ∙ length-encode_with lower_digits found.0 in
    let some = leb-true 2 (length word) inner.0 in
    let within = leb-true (length word) (2 * MAX_DATAGRAM_BYTES) inner.1 in
    rw (← same) (record { size = record { some = omega arith; within = omega arith }; each = found.1.each }, found.1.spelled)

-- the digits of a datagram spell it
pub bytes_of-encode : (bytes : List ℕ) → IsDatagram bytes → bytes_of (encode_lower bytes) ≡ Some bytes
bytes_of-encode bytes is =
    let digits = length-encode_with lower_digits bytes in
    let some : 2 ≤ length (encode_lower bytes) = omega (arith, digits, is.size.some) in
    let within : length (encode_lower bytes) ≤ 2 * MAX_DATAGRAM_BYTES = omega (arith, digits, is.size.within) in
    rw (
      le-leb 2 (length (encode_lower bytes)) some,
      le-leb (length (encode_lower bytes)) (2 * MAX_DATAGRAM_BYTES) within,
      digits_of_encode bytes is.each,
      decode_of-encode_lower bytes is.each,
    ) refl

-- ---- one byte

-- a byte that was read is spelled by two digits
pub byte_of-Some : (word : List ℕ) (byte : ℕ) → byte_of word ≡ Some byte → (byte < 256) × (word ≡ encode_lower (byte ∷ []))
byte_of-Some word byte read = go (bytes_of word) refl read
  where
    one : (bytes : List ℕ) → bytes_of word ≡ Some bytes → only_byte bytes ≡ Some byte → (byte < 256) × (word ≡ encode_lower (byte ∷ []))
    one [] is read = cc read
    one (b ∷ []) is read =
        let found = bytes_of-Some word (b ∷ []) is in
        let same = same_Some b byte read in
        rw (← same) (found.0.each 0, found.1)
    one (b ∷ next ∷ rest) is read = cc read

    go : (o : Option (List ℕ)) → bytes_of word ≡ o → (o >>= only_byte) ≡ Some byte → (byte < 256) × (word ≡ encode_lower (byte ∷ []))
    go (Some bytes) is read = one bytes is read
    go None is read = cc read

-- one byte is the bytes of a datagram
pub one_byte : (byte : ℕ) → byte < 256 → IsDatagram (byte ∷ [])
one_byte byte below = record { size = record { some = omega arith; within = omega arith }; each = IsBytes-cons byte [] below (λ i. omega arith) }

-- and is read from its two digits
pub byte_of-encode : (byte : ℕ) → byte < 256 → byte_of (encode_lower (byte ∷ [])) ≡ Some byte
byte_of-encode byte below = ap (λ (o : Option (List ℕ)). o >>= only_byte) (bytes_of-encode (byte ∷ []) (one_byte byte below))

-- a word that is not two digits spells no byte
pub no_byte : (word : List ℕ) → ((b : ℕ) → b < 256 → word ≡ encode_lower (b ∷ []) → ⊥) → byte_of word ≡ None
no_byte word other = go (byte_of word) refl
  where
    go : (o : Option ℕ) → byte_of word ≡ o → o ≡ None
    go None is = refl
    go (Some b) is = let found = byte_of-Some word b is in absurd (other b found.0 found.1)

pub no_byte_of_length : (word : List ℕ) → length word ≢ 2 → byte_of word ≡ None
no_byte_of_length word other =
    no_byte word (λ b below is. other (ap length is ∙ omega (arith, length-encode_with lower_digits (b ∷ []))))

pub no_byte_of_digits : (word : List ℕ) → list_all is_lower_hex_digit word ≡ false → byte_of word ≡ None
no_byte_of_digits word other =
    no_byte word (λ b below is. cc (sym other ∙ ap (list_all is_lower_hex_digit) is ∙ digits_of_encode (b ∷ []) (one_byte b below).each))

-- two digits spell a byte
pub record SpellsByte (word : List ℕ) : Type 0 where
  pub byte : ℕ
  pub read : byte_of word ≡ Some byte
  pub decoded : decode_sized word 1 ≡ Ok (byte ∷ [])

pub two_digits : (word : List ℕ) → length word ≡ 2 → list_all is_lower_hex_digit word ≡ true → SpellsByte word
two_digits word two digits =
    let pairs = pairs_of word (ap (λ (n : ℕ). n % 2) two) digits in
    of_bytes pairs.0 pairs.1.spelled pairs.1.each (omega (arith, two, ap length pairs.1.spelled, length-encode_with lower_digits pairs.0))
  where
    sized : (word : List ℕ) → length word ≡ 2 → decode_sized word 1 ≡ decode_of word
    sized [] two = absurd (omega (arith, two))
    sized (a ∷ []) two = absurd (omega (arith, two))
    sized (a ∷ b ∷ []) two = refl
    sized (a ∷ b ∷ c ∷ rest) two = absurd (omega (arith, two))

    of_bytes : (bytes : List ℕ) → word ≡ encode_lower bytes → IsBytes bytes → length bytes ≡ 1 → SpellsByte word
    of_bytes [] is each one = absurd (omega (arith, one))
    of_bytes (b ∷ []) is each one = record {
      byte = b;
      read = ap byte_of is ∙ byte_of-encode b (each 0);
      decoded = sized word two ∙ ap decode_of is ∙ decode_of-encode_lower (b ∷ []) each;
    }
    of_bytes (b ∷ next ∷ rest) is each one = absurd (omega (arith, one))
