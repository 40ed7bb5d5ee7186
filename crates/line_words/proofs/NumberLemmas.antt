-- Words that are numerals.
use Rattle.std.proofs.Common.{◌≡◌, ◌≢◌, ℕ, ◌^◌, ◌<◌, ◌≤◌, nat_lt, true, false, ◌&&◌, not, List, [], ◌∷◌, length, get_or, Some, Result, Ok, Err, inl, inr, refl, sym, ap, arith}
use Rattle.std.specs.Result.{result_ok}
use Rattle.std.specs.Str.{all_ascii_digits, IsUtf8}
use Rattle.std.specs.Str.Parse.{ParsesUnsigned, digits_value}
use Rattle.std.specs.Fmt.{decimal}
use Rattle.std.proofs.lemmas.Bool.{and_from, and_parts, cases_lt, eqb-false, false_from_ne_true, lt-ltb, ltb-true, ne_eqb, not-true, not_from_false}
use Rattle.std.proofs.lemmas.Fmt.{decimal-digits_value, decimal_nonempty, digits_decimal, digits_value-decimal, first_decimal, decimal_digit, IsAscii-from_digits}
use Rattle.std.proofs.lemmas.Option.{cond_some}
use Rattle.std.proofs.lemmas.Str.{IsUtf8-from_ascii}
use Rattle.std.proofs.lemmas.Str.Parse.{IsNumeralModel, numerals_by_value, parse_plain, tells_all_ascii_digits}
use Rattle.line_words.specs.Words.{has_leading_zero, is_numeral, number_of}

-- the words for digits are those of std
own : IsNumeralModel (λ ds. all_ascii_digits ds ≡ true) (digits_value 10)
own = numerals_by_value (λ ds. all_ascii_digits ds ≡ true) tells_all_ascii_digits

-- what a numeral is
record IsNumeral (word : List ℕ) : Type 0 where
  some : 0 < length word
  digits : all_ascii_digits word ≡ true
  plain : has_leading_zero word ≡ false

-- the parts of the test for a numeral
numeral_parts : (word : List ℕ) → is_numeral word ≡ true → IsNumeral word
numeral_parts word is =
    let front = and_parts (nat_lt 0 (length word) && all_ascii_digits word) (not (has_leading_zero word)) is in
    let first = and_parts (nat_lt 0 (length word)) (all_ascii_digits word) front.0 in
    record { some = ltb-true 0 (length word) first.0; digits = first.1; plain = not-true (has_leading_zero word) front.1 }

-- the test for a numeral, from its parts
numeral_from : (word : List ℕ) → IsNumeral word → is_numeral word ≡ true
numeral_from word is =
    and_from (nat_lt 0 (length word) && all_ascii_digits word) (not (has_leading_zero word))
    (and_from (nat_lt 0 (length word)) (all_ascii_digits word) (lt-ltb 0 (length word) is.some) is.digits)
    (not_from_false (has_leading_zero word) is.plain)

-- a word that is no text is no numeral
pub no_text_no_numeral : (word : List ℕ) → (IsUtf8 word → ⊥) → is_numeral word ≡ false
no_text_no_numeral word none = false_from_ne_true (is_numeral word) (λ is.
    none (IsUtf8-from_ascii word (IsAscii-from_digits word (own.to word (numeral_parts word is).digits))))

-- what parsing a word without a sign or a leading zero gives is the number that it spells
pub number_of-parse : {E : Type 0} (bits : ℕ) (word : List ℕ) (r : Result ℕ E) → has_leading_zero word ≡ false
    → get_or word 0 0 ≢ 43 → ParsesUnsigned bits 10 word r → result_ok r ≡ number_of bits word
number_of-parse {E = E} bits word (Ok n) plain unsigned parsed =
    let is = parse_plain own {E = E} bits word (Ok n) parsed unsigned in
    let numeral = numeral_from word (record { some = is.0.1; digits = is.0.0; plain = plain }) in
    rw (numeral, lt-ltb (digits_value 10 word) (2 ^ bits) is.0.2) (ap Some is.1)
number_of-parse {E = E} bits word (Err e) plain unsigned parsed =
    let is = parse_plain own {E = E} bits word (Err e) parsed unsigned in
    let no = false_from_ne_true (is_numeral word && nat_lt (digits_value 10 word) (2 ^ bits)) (λ both.
    let parts = and_parts (is_numeral word) (nat_lt (digits_value 10 word) (2 ^ bits)) both in
    let numeral = numeral_parts word parts.0 in
    is (numeral.digits, numeral.some, ltb-true (digits_value 10 word) (2 ^ bits) parts.1)) in
    rw no refl

-- a zero that is the first digit of a numeral is the only one
zero_alone : (word : List ℕ) → IsNumeral word → get_or word 0 0 ≡ 48 → length word ≡ 1
zero_alone [] is zero = absurd (omega (arith, is.some))
zero_alone (digit ∷ []) is zero = refl
zero_alone (digit ∷ next ∷ more) is zero = absurd (eqb-false digit 48 is.plain zero)

-- a word that spells a number is its decimal
pub number_of-Some : (bits : ℕ) (word : List ℕ) (n : ℕ) → 2 ^ bits ≤ 2 ^ 64 → number_of bits word ≡ Some n
    → (n < 2 ^ bits) × (word ≡ decimal n)
number_of-Some bits word n wide read =
    let found = cond_some (is_numeral word && nat_lt (digits_value 10 word) (2 ^ bits)) (digits_value 10 word) n read in
    let parts = and_parts (is_numeral word) (nat_lt (digits_value 10 word) (2 ^ bits)) found.0 in
    let is = numeral_parts word parts.0 in
    let below = ltb-true (digits_value 10 word) (2 ^ bits) parts.1 in
    rw (sym found.1)
    (below, sym (decimal-digits_value own word is.digits is.some (zero_alone word is) (omega arith)))

-- a first digit above zero is no zero
plain_above : (word : List ℕ) → 48 < get_or word 0 0 → has_leading_zero word ≡ false
plain_above [] above = refl
plain_above (digit ∷ []) above = refl
plain_above (digit ∷ next ∷ more) above = ne_eqb digit 48 (λ zero. omega arith)

-- the decimal of a number has no zero before another digit
plain_decimal : (n : ℕ) → n < 2 ^ 64 → has_leading_zero (decimal n) ≡ false
plain_decimal n below =
    elim (cases_lt 0 n) [
      | inl above ↦ plain_above (decimal n) (first_decimal n above below)
      | inr none ↦ rw (decimal_digit n (omega arith)) refl
    ]

-- the decimal of a number spells it
pub number_of-decimal : (bits n : ℕ) → 2 ^ bits ≤ 2 ^ 64 → n < 2 ^ bits → number_of bits (decimal n) ≡ Some n
number_of-decimal bits n wide below =
    let small : n < 2 ^ 64 = omega arith in
    let numeral = numeral_from (decimal n) (record {
      some = decimal_nonempty n small;
      digits = digits_decimal own n small;
      plain = plain_decimal n small;
    }) in
    let value = digits_value-decimal own n small in
    rw (numeral, value, lt-ltb n (2 ^ bits) below) refl

-- the decimal of a number is of digits
pub digits_of_decimal : (n : ℕ) → n < 2 ^ 64 → all_ascii_digits (decimal n) ≡ true
digits_of_decimal n below = digits_decimal own n below
