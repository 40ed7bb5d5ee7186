-- The bytes of the words of a line: neither a space nor a newline is among them.
use Rattle.std.proofs.Common.{◌≡◌, ℕ, ◌+◌, ◌*◌, ◌^◌, ◌<◌, ◌≤◌, Bool, true, false, ◌&&◌, ◌||◌, nat_le, List, [], ◌∷◌, length, get_or, refl, sym, ap, ◌∙◌, arith}
use Rattle.std.specs.Prelude.{decimal, Contains}
use Rattle.std.specs.Char.{is_ascii_digit}
use Rattle.std.specs.List.{All, list_all, AllByRecursion}
use Rattle.std.specs.Str.{all_ascii_digits}
use Rattle.std.proofs.lemmas.Bool.{and_from, and_parts}
use Rattle.std.proofs.lemmas.List.Sums.{AllPass-from_list_all}
use Rattle.std.proofs.lemmas.List.Folds.{list_all-append}
use Rattle.std.proofs.lemmas.List.Splits.{slice_split_none, slice_split_at}
use Rattle.std.proofs.lemmas.Fmt.{length-decimal-le}
use Rattle.std.proofs.lemmas.List.{length-append}
use Rattle.hex.specs.Hex.{encode_lower, lower_digits}
use Rattle.hex.proofs.HexLemmas.{length-encode_with}
use Rattle.line_words.specs.Words.{space, words_of, text_of_words, is_lower_hex_digit, IsDatagram}
use Rattle.line_words.specs.declared.limits.TheConstants.{MAX_DATAGRAM_BYTES, MAX_LINE_BYTES}
use Rattle.line_words.proofs.WordsLemmas.{is_space}
use Rattle.line_words.proofs.BytesLemmas.{digits_of_encode, one_byte}
use Rattle.line_words.proofs.NumberLemmas.{digits_of_decimal}

-- a digit or a lower-case letter
abbrev pub is_word_byte : ℕ → Bool
is_word_byte c = is_ascii_digit c || (nat_le 97 c && nat_le c 122)

-- each byte of a word is a digit or a lower-case letter
abbrev pub IsWord : List ℕ → Type 0
IsWord word = list_all is_word_byte word ≡ true

-- each of the words is one
abbrev pub AreWords : List (List ℕ) → Type 0
AreWords words = AllByRecursion IsWord words

-- where one test implies another
pub list_all-weaker : (p q : ℕ → Bool) → ((c : ℕ) → p c ≡ true → q c ≡ true) → (xs : List ℕ) → list_all p xs ≡ true → list_all q xs ≡ true
list_all-weaker p q implies [] all = refl
list_all-weaker p q implies (x ∷ xs) all =
    let parts = and_parts (p x) (list_all p xs) all in
    and_from (q x) (list_all q xs) (implies x parts.0) (list_all-weaker p q implies xs parts.1)

-- digits in the words of std
digits_all : (xs : List ℕ) → all_ascii_digits xs ≡ true → list_all is_ascii_digit xs ≡ true
digits_all [] all = refl
digits_all (x ∷ xs) all =
    let parts = and_parts (is_ascii_digit x) (all_ascii_digits xs) all in
    and_from (is_ascii_digit x) (list_all is_ascii_digit xs) parts.0 (digits_all xs parts.1)

-- the decimal of a number is a word
pub IsWord-decimal : (n : ℕ) → n < 2 ^ 64 → IsWord (decimal n)
IsWord-decimal n below =
    list_all-weaker is_ascii_digit is_word_byte (λ c is. grind arith) (decimal n) (digits_all (decimal n) (digits_of_decimal n below))

-- the digits of a datagram are a word
pub IsWord-encode : (bytes : List ℕ) → IsDatagram bytes → IsWord (encode_lower bytes)
IsWord-encode bytes is =
    list_all-weaker is_lower_hex_digit is_word_byte (λ c is. grind arith) (encode_lower bytes) (digits_of_encode bytes is.each)

-- no byte of a word is a space
no_space : (word : List ℕ) → IsWord word → All (λ c. is_space c ≡ false) word
no_space word is k d within =
    let byte = AllPass-from_list_all is_word_byte word is k d within in
    other (get_or word k d) byte
  where
    other : (c : ℕ) → is_word_byte c ≡ true → is_space c ≡ false
    other c is = grind arith

-- the words of a line of words are these
words_of-text : (words : List (List ℕ)) → 0 < length words → AreWords words → words_of (text_of_words words) ≡ words
words_of-text [] some are = absurd (omega arith)
words_of-text (word ∷ []) some are = slice_split_none is_space word (no_space word are.0)
words_of-text (word ∷ next ∷ rest) some are =
    slice_split_at is_space word space (text_of_words (next ∷ rest)) (no_space word are.0) refl
    ∙ ap (λ (ws : List (List ℕ)). word ∷ ws) (words_of-text (next ∷ rest) (omega arith) are.1)

-- a byte of a line: of a word, or a space
abbrev is_line_byte : ℕ → Bool
is_line_byte c = is_word_byte c || is_space c

-- each byte of a line of words is of a word, or a space
line_bytes : (words : List (List ℕ)) → AreWords words → list_all is_line_byte (text_of_words words) ≡ true
line_bytes [] are = refl
line_bytes (word ∷ []) are = list_all-weaker is_word_byte is_line_byte (λ c is. grind arith) word are.0
line_bytes (word ∷ next ∷ rest) are =
    list_all-append is_line_byte word (space ∷ text_of_words (next ∷ rest))
    ∙ and_from (list_all is_line_byte word) (list_all is_line_byte (text_of_words (next ∷ rest)))
    (list_all-weaker is_word_byte is_line_byte (λ c is. grind arith) word are.0)
    (line_bytes (next ∷ rest) are.1)

-- no byte of a line of words is a newline
no_newline : (words : List (List ℕ)) → AreWords words → ¬ Contains (text_of_words words) 10
no_newline words are contains =
    let byte = AllPass-from_list_all is_line_byte (text_of_words words) (line_bytes words are) contains.0 10 contains.1 in
    let newline : is_line_byte 10 ≡ true = ap is_line_byte (sym contains.2) ∙ byte in
    cc newline

-- ---- how long a line is

-- the length of a line of words is at most that of the words, and one for each
pub length_words : List (List ℕ) → ℕ
length_words [] = 0
length_words (word ∷ words) = length word + 1 + length_words words

-- a line is no longer than its words and one byte for each
length-text_of_words : (words : List (List ℕ)) → length (text_of_words words) ≤ length_words words
unfolding length_words
length-text_of_words [] = omega arith
length-text_of_words (word ∷ []) = omega arith
length-text_of_words (word ∷ next ∷ rest) =
    omega (arith, length-append word (space ∷ text_of_words (next ∷ rest)), length-text_of_words (next ∷ rest))

-- these are words, whose line has at most so many bytes
pub record AreShort (most : ℕ) (words : List (List ℕ)) : Type 0 where
  pub are : AreWords words
  pub short : length_words words ≤ most

-- no words
pub no_words : AreShort 0 []
unfolding length_words
no_words = record { are = tt; short = omega arith }

-- words that are short enough for more
pub weaker : (few most : ℕ) (words : List (List ℕ)) → few ≤ most → AreShort few words → AreShort most words
weaker few most words within is = record { are = is.are; short = omega (arith, is.short, within) }

-- a word in front of words
pub more_words : {most : ℕ} {words : List (List ℕ)} (word : List ℕ) (k : ℕ) → IsWord word → length word ≤ k → AreShort most words
    → AreShort (k + 1 + most) (word ∷ words)
unfolding length_words
more_words word k is short rest = record { are = (is, rest.are); short = omega (arith, rest.short, short) }

-- a name in front of words
pub name_word : {most : ℕ} {words : List (List ℕ)} (name : List ℕ) → IsWord name → length name ≤ 10 → AreShort most words
    → AreShort (10 + 1 + most) (name ∷ words)
name_word name is short rest = more_words name 10 is short rest

-- a number below 2 ^ 32 in front of words
pub small_word : {most : ℕ} {words : List (List ℕ)} (n : ℕ) → n < 2 ^ 32 → AreShort most words
    → AreShort (10 + 1 + most) (decimal n ∷ words)
small_word n below rest =
    more_words (decimal n) 10 (IsWord-decimal n (omega arith)) (length-decimal-le 10 n (omega arith) (omega arith) (omega arith)) rest

-- a number below 2 ^ 64 in front of words
pub wide_word : {most : ℕ} {words : List (List ℕ)} (n : ℕ) → n < 2 ^ 64 → AreShort most words
    → AreShort (20 + 1 + most) (decimal n ∷ words)
wide_word n below rest =
    more_words (decimal n) 20 (IsWord-decimal n below) (length-decimal-le 20 n (omega arith) (omega arith) below) rest

-- the digits of a datagram in front of words
pub bytes_word : {most : ℕ} {words : List (List ℕ)} (bytes : List ℕ) → IsDatagram bytes → AreShort most words
    → AreShort (2 * MAX_DATAGRAM_BYTES + 1 + most) (encode_lower bytes ∷ words)
bytes_word bytes is rest =
    more_words (encode_lower bytes) (2 * MAX_DATAGRAM_BYTES) (IsWord-encode bytes is)
    (omega (arith, length-encode_with lower_digits bytes, is.size.within)) rest

-- the two digits of a byte in front of words
pub byte_word : {most : ℕ} {words : List (List ℕ)} (byte : ℕ) → byte < 256 → AreShort most words
    → AreShort (2 + 1 + most) (encode_lower (byte ∷ []) ∷ words)
byte_word byte below rest =
    more_words (encode_lower (byte ∷ [])) 2 (IsWord-encode (byte ∷ []) (one_byte byte below))
    (omega (arith, length-encode_with lower_digits (byte ∷ []))) rest

-- the words of one line
pub record IsOneLine (words : List (List ℕ)) : Type 0 where
  pub parts : words_of (text_of_words words) ≡ words
  pub one : ¬ Contains (text_of_words words) 10
  pub short : length (text_of_words words) ≤ MAX_LINE_BYTES

-- short words are those of one line
pub one_line : (most : ℕ) (words : List (List ℕ)) → 0 < length words → most ≤ MAX_LINE_BYTES → AreShort most words → IsOneLine words
one_line most words some small are = record {
  parts = words_of-text words some are.are;
  one = no_newline words are.are;
  short = omega (arith, length-text_of_words words, are.short);
}

-- a letter in front of a number is a word
pub IsWord-letter : (letter n : ℕ) → is_word_byte letter ≡ true → n < 2 ^ 32 → IsWord (letter ∷ decimal n)
IsWord-letter letter n is below = and_from (is_word_byte letter) (list_all is_word_byte (decimal n)) is (IsWord-decimal n (omega (arith, below)))

-- a number below 2 ^ 32 has at most ten digits
pub length_small : (n : ℕ) → n < 2 ^ 32 → length (decimal n) ≤ 10
length_small n below = length-decimal-le 10 n (omega arith) (omega arith) (omega (arith, below))
