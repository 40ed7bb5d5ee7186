-- What reading one word says of the words.
use Rattle.std.proofs.Common.{◌≡◌, ℕ, ◌^◌, ◌<◌, ◌≤◌, Bool, true, false, cond, List, [], ◌∷◌, Option, Some, None, refl, sym, ap, ◌∙◌}
use Rattle.std.specs.Option.{option_map}
use Rattle.std.specs.Str.{bytes_eq, all_ascii_digits}
use Rattle.std.specs.Fmt.{decimal}
use Rattle.std.proofs.lemmas.Option.{same_Some}
use Rattle.std.proofs.lemmas.Slice.Eq.{bytes_eq-Decides}
use Rattle.hex.specs.Hex.{encode_lower}
use Rattle.line_words.specs.Words.{number_of, IsDatagram}
use Rattle.line_words.specs.Reading.{◌>>=◌, either, number_at, after_word, last_bytes, last_byte, at_end}
use Rattle.line_words.proofs.NumberLemmas.{number_of-Some, number_of-decimal, digits_of_decimal}
use Rattle.line_words.proofs.BytesLemmas.{bytes_of-Some, byte_of-Some}

-- a first step that led to a value
pub bind_some : {A B : Type 0} (o : Option A) (f : A → Option B) (y : B) → (o >>= f) ≡ Some y
    → (x : A) × (o ≡ Some x) × (f x ≡ Some y)
bind_some (Some x) f y is = (x, refl, is)
bind_some None f y is = cc is

-- a choice by the name that a word is: what each way shows
pub by_name : {A P : Type 0} (name word : List ℕ) (x y : Option A) (z : A) → cond (bytes_eq word name) x y ≡ Some z
    → (word ≡ name → x ≡ Some z → P) → (y ≡ Some z → P) → P
by_name name word x y z is here there = go (bytes_eq word name) x y z is (λ met. here ((bytes_eq-Decides word name).0 met)) there
  where
    go : {A P : Type 0} (b : Bool) (x y : Option A) (z : A) → cond b x y ≡ Some z → (b ≡ true → x ≡ Some z → P)
        → (y ≡ Some z → P) → P
    go true x y z is here there = here refl is
    go false x y z is here there = there is

-- a number was read, and what followed it led to y
pub record NumberStep {B : Type 0} (bits : ℕ) (words : List (List ℕ)) (f : ℕ × List (List ℕ) → Option B) (y : B) : Type 0 where
  pub number : ℕ
  pub rest : List (List ℕ)
  pub fits : number < 2 ^ bits
  pub words_are : words ≡ decimal number ∷ rest
  pub then : f (number, rest) ≡ Some y

-- what a step that reads a number shows
pub number_step : {B : Type 0} (bits : ℕ) (words : List (List ℕ)) (f : ℕ × List (List ℕ) → Option B) (y : B)
    → 2 ^ bits ≤ 2 ^ 64 → (number_at bits words >>= f) ≡ Some y → NumberStep bits words f y
number_step bits [] f y wide read = cc read
number_step bits (word ∷ rest) f y wide read =
    let first = bind_some (number_at bits (word ∷ rest)) f y read in
    let found = number_mapped bits word rest first.0 first.1 in
    let number = number_of-Some bits word found.0 wide found.1 in
    record {
      number = found.0;
      rest = rest;
      fits = number.0;
      words_are = ap (λ (w : List ℕ). w ∷ rest) number.1;
      then = ap f found.2 ∙ first.2;
    }
  where
    number_mapped : (bits : ℕ) (word : List ℕ) (rest : List (List ℕ)) (x : ℕ × List (List ℕ))
        → number_at bits (word ∷ rest) ≡ Some x → (n : ℕ) × (number_of bits word ≡ Some n) × ((n, rest) ≡ x)
    number_mapped bits word rest x is = mapped (number_of bits word) rest x is
      where
        mapped : (o : Option ℕ) (rest : List (List ℕ)) (x : ℕ × List (List ℕ)) → option_map (λ n. (n, rest)) o ≡ Some x
            → (n : ℕ) × (o ≡ Some n) × ((n, rest) ≡ x)
        mapped (Some n) rest x is = (n, refl, same_Some (n, rest) x is)
        mapped None rest x is = cc is

-- a number is read from its decimal
pub number_at-decimal : (bits n : ℕ) (rest : List (List ℕ)) → 2 ^ bits ≤ 2 ^ 64 → n < 2 ^ bits
    → number_at bits (decimal n ∷ rest) ≡ Some (n, rest)
number_at-decimal bits n rest wide below = ap (option_map (λ (m : ℕ). (m, rest))) (number_of-decimal bits n wide below)

-- a name was read, and what followed it led to y
pub record NameStep {B : Type 0} (name : List ℕ) (words : List (List ℕ)) (f : List (List ℕ) → Option B) (y : B) : Type 0 where
  pub rest : List (List ℕ)
  pub words_are : words ≡ name ∷ rest
  pub then : f rest ≡ Some y

-- what a step that reads a name shows
pub name_step : {B : Type 0} (name : List ℕ) (words : List (List ℕ)) (f : List (List ℕ) → Option B) (y : B)
    → (after_word name words >>= f) ≡ Some y → NameStep name words f y
name_step name [] f y read = cc read
name_step name (word ∷ rest) f y read =
    let first = bind_some (after_word name (word ∷ rest)) f y read in
    by_name name word (Some rest) None first.0 first.1
    (λ met is. record {
      rest = rest;
      words_are = ap (λ (w : List ℕ). w ∷ rest) met;
      then = ap f (same_Some rest first.0 is) ∙ first.2;
    })
    (λ none. cc none)

-- the bytes of the last word were read
pub last_bytes-Some : (words : List (List ℕ)) (bytes : List ℕ) → last_bytes words ≡ Some bytes
    → IsDatagram bytes × (words ≡ encode_lower bytes ∷ [])
last_bytes-Some [] bytes read = cc read
last_bytes-Some (word ∷ []) bytes read =
    let found = bytes_of-Some word bytes read in
    (found.0, ap (λ (w : List ℕ). w ∷ []) found.1)
last_bytes-Some (word ∷ next ∷ rest) bytes read = cc read

-- no word was left
pub at_end-Some : {A : Type 0} (x y : A) (words : List (List ℕ)) → at_end x words ≡ Some y → (x ≡ y) × (words ≡ [])
at_end-Some x y [] read = (same_Some x y read, refl)
at_end-Some x y (word ∷ rest) read = cc read

-- a first reading, or another: what each way shows
pub either_way : {A B P : Type 0} (o : Option A) (f : A → Option B) (other : Option B) (y : B) → either o f other ≡ Some y
    → ((x : A) → o ≡ Some x → f x ≡ Some y → P) → (other ≡ Some y → P) → P
either_way (Some x) f other y is here there = here x refl is
either_way None f other y is here there = there is

-- a name was read
pub after_word-Some : (name : List ℕ) (words rest : List (List ℕ)) → after_word name words ≡ Some rest → words ≡ name ∷ rest
after_word-Some name [] rest read = cc read
after_word-Some name (word ∷ words) rest read =
    by_name name word (Some words) None rest read
    (λ met is. ap (λ (w : List ℕ). w ∷ words) met ∙ ap (λ (ws : List (List ℕ)). name ∷ ws) (same_Some words rest is))
    (λ none. cc none)

-- a numeral is no name that has a letter
pub decimal_is_no_name : (n : ℕ) (name : List ℕ) → n < 2 ^ 64 → all_ascii_digits name ≡ false → bytes_eq (decimal n) name ≡ false
decimal_is_no_name n name below letters = go (bytes_eq (decimal n) name) refl
  where
    go : (b : Bool) → bytes_eq (decimal n) name ≡ b → b ≡ false
    go false is = refl
    go true is = absurd (false_is_not_true (sym letters ∙ sym (ap all_ascii_digits ((bytes_eq-Decides (decimal n) name).0 is)) ∙ digits_of_decimal n below))
      where
        false_is_not_true : false ≡ true → ⊥
        false_is_not_true is = cc is

-- nor is a numeral skipped as one
pub decimal_is_not_skipped : (n : ℕ) (name : List ℕ) (rest : List (List ℕ)) → n < 2 ^ 64 → all_ascii_digits name ≡ false → after_word name (decimal n ∷ rest) ≡ None
decimal_is_not_skipped n name rest below letters = ap (λ b. cond b (Some rest) None) (decimal_is_no_name n name below letters)

-- the byte of the last word was read
pub last_byte-Some : (words : List (List ℕ)) (byte : ℕ) → last_byte words ≡ Some byte → (byte < 256) × (words ≡ encode_lower (byte ∷ []) ∷ [])
last_byte-Some [] byte read = cc read
last_byte-Some (word ∷ []) byte read =
    let found = byte_of-Some word byte read in
    (found.0, ap (λ (w : List ℕ). w ∷ []) found.1)
last_byte-Some (word ∷ next ∷ rest) byte read = cc read
