-- The lines of a listing: their words are those of one line.
use Rattle.std.proofs.Common.{◌≡◌, ℕ, ◌+◌, ◌*◌, ◌^◌, ◌%◌, ◌<◌, ◌≤◌, ◌==◌, Bool, true, false, cond, ◌&&◌, List, [], ◌∷◌, length, nat_le, Option, Some, None, refl, sym, ap, ◌∙◌, arith}
use Rattle.std.specs.Prelude.{codes, decimal}
use Rattle.std.specs.List.{list_all}
use Rattle.std.proofs.lemmas.Bool.{and_parts, leb-true, eqb-true}
use Rattle.std.proofs.lemmas.Option.{same_Some}
use Rattle.std.specs.Str.{bytes_eq}
use Rattle.std.proofs.lemmas.Slice.Eq.{bytes_eq-Decides}
use Rattle.line_words.specs.Words.{is_lower_hex_digit}
use Rattle.line_words.specs.Reading.{◌>>=◌, number_at, at_end}
use Rattle.line_words.proofs.ReadingLemmas.{at_end-Some, bind_some, by_name, number_step}
use Rattle.line_words.proofs.SpellingLemmas.{AreShort, IsOneLine, IsWord, is_word_byte, list_all-weaker, more_words, name_word, no_words, one_line, small_word, weaker, wide_word}
use Rattle.event_text.proofs.EventLemmas.{small, wide}
use Rattle.line_text.specs.Listed.{is_octal_digit, is_mode, is_kind, is_hex, passing, times_of, file_of, name_of, data_of, listed_of}

-- a word that passes a test stands first
record Passed (test : List ℕ → Bool) {B : Type 0} (words : List (List ℕ)) (f : List (List ℕ) → Option B) (y : B) : Type 0 where
  word : List ℕ
  rest : List (List ℕ)
  passes : test word ≡ true
  words_are : words ≡ word ∷ rest
  then : f rest ≡ Some y

passing_step : {B : Type 0} (test : List ℕ → Bool) (words : List (List ℕ)) (f : List (List ℕ) → Option B) (y : B) → (passing test words >>= f) ≡ Some y → Passed test words f y
passing_step test [] f y read = cc read
passing_step test (word ∷ rest) f y read = go (test word) refl read
  where
    go : (b : Bool) → test word ≡ b → (cond b (Some rest) None >>= f) ≡ Some y → Passed test (word ∷ rest) f y
    go true is read = record { word = word; rest = rest; passes = is; words_are = refl; then = read }
    go false is read = cc read

-- a mode is a word of four letters
mode_word : {most : ℕ} {words : List (List ℕ)} (word : List ℕ) → is_mode word ≡ true → AreShort most words → AreShort (4 + 1 + most) (word ∷ words)
mode_word word is rest =
    let parts = and_parts (length word == 4) (list_all is_octal_digit word) is in
    more_words word 4 (list_all-weaker is_octal_digit is_word_byte (λ c digit. grind arith) word parts.1) (omega (arith, eqb-true (length word) 4 parts.0)) rest

-- a kind is a word of three
kind_word : {most : ℕ} {words : List (List ℕ)} (word : List ℕ) → is_kind word ≡ true → AreShort most words → AreShort (10 + 1 + most) (word ∷ words)
kind_word {most} {words} word is rest = first (bytes_eq word (codes "reg")) refl is
  where
    as_name : (name : List ℕ) → IsWord name → length name ≤ 10 → bytes_eq word name ≡ true → AreShort (10 + 1 + most) (word ∷ words)
    as_name name fits short same = rw ((bytes_eq-Decides word name).0 same) (name_word name fits short rest)

    second : (b : Bool) → bytes_eq word (codes "dir") ≡ b → cond b true (bytes_eq word (codes "lnk")) ≡ true → AreShort (10 + 1 + most) (word ∷ words)
    second true same is = as_name (codes "dir") refl (omega arith) same
    second false same is = as_name (codes "lnk") refl (omega arith) is

    first : (b : Bool) → bytes_eq word (codes "reg") ≡ b → cond b true (cond (bytes_eq word (codes "dir")) true (bytes_eq word (codes "lnk"))) ≡ true → AreShort (10 + 1 + most) (word ∷ words)
    first true same is = as_name (codes "reg") refl (omega arith) same
    first false same is = second (bytes_eq word (codes "dir")) refl is

-- digits are a word
hex_word : {count : ℕ} {words : List (List ℕ)} (least most : ℕ) (word : List ℕ) → is_hex least most word ≡ true → AreShort count words → AreShort (2 * most + 1 + count) (word ∷ words)
hex_word least most word is rest =
    let first = and_parts (nat_le (2 * least) (length word) && nat_le (length word) (2 * most) && (length word % 2 == 0)) (list_all is_lower_hex_digit word) is in
    let second = and_parts (nat_le (2 * least) (length word) && nat_le (length word) (2 * most)) (length word % 2 == 0) first.0 in
    let third = and_parts (nat_le (2 * least) (length word)) (nat_le (length word) (2 * most)) second.0 in
    more_words word (2 * most) (list_all-weaker is_lower_hex_digit is_word_byte (λ c digit. grind arith) word first.1) (leb-true (length word) (2 * most) third.1) rest

times_short : (words : List (List ℕ)) → times_of words ≡ Some tt → AreShort 66 words
unfolding times_of
times_short words read =
    let a = number_step 32 words _ tt small read in
    let b = number_step 32 a.rest _ tt small a.then in
    let c = number_step 32 b.rest _ tt small b.then in
    let d = number_step 32 c.rest _ tt small c.then in
    let e = number_step 32 d.rest _ tt small d.then in
    let f = number_step 32 e.rest _ tt small e.then in
    let end = at_end-Some tt tt f.rest f.then in
    rw (a.words_are, b.words_are, c.words_are, d.words_are, e.words_are, f.words_are, end.1)
    (small_word a.number a.fits (small_word b.number b.fits (small_word c.number c.fits (small_word d.number d.fits (small_word e.number e.fits (small_word f.number f.fits no_words))))))

file_short : (words : List (List ℕ)) → file_of words ≡ Some tt → AreShort 200 words
unfolding file_of
file_short words read =
    let number = number_step 32 words _ tt small read in
    let generation = number_step 32 number.rest _ tt small number.then in
    let kind = passing_step is_kind generation.rest _ tt generation.then in
    let mode = passing_step is_mode kind.rest _ tt kind.then in
    let links = number_step 32 mode.rest _ tt small mode.then in
    let uid = number_step 32 links.rest _ tt small links.then in
    let gid = number_step 32 uid.rest _ tt small uid.then in
    let size = number_step 32 gid.rest _ tt small gid.then in
    let change = number_step 64 size.rest _ tt wide size.then in
    rw (number.words_are, generation.words_are, kind.words_are, mode.words_are, links.words_are, uid.words_are, gid.words_are, size.words_are, change.words_are)
    (weaker 169 200 _ (omega arith)
    (small_word number.number number.fits (small_word generation.number generation.fits (kind_word kind.word kind.passes (mode_word mode.word mode.passes
    (small_word links.number links.fits (small_word uid.number uid.fits (small_word gid.number gid.fits (small_word size.number size.fits
    (wide_word change.number change.fits (times_short change.rest change.then)))))))))))

name_short : (words : List (List ℕ)) → name_of words ≡ Some tt → AreShort 544 words
unfolding name_of
name_short words read =
    let directory = number_step 32 words _ tt small read in
    let slot = number_step 32 directory.rest _ tt small directory.then in
    let bytes = passing_step (is_hex 1 255) slot.rest _ tt slot.then in
    let number = number_step 32 bytes.rest _ tt small bytes.then in
    let end = at_end-Some tt tt number.rest number.then in
    rw (directory.words_are, slot.words_are, bytes.words_are, number.words_are, end.1)
    (small_word directory.number directory.fits (small_word slot.number slot.fits (hex_word 1 255 bytes.word bytes.passes (small_word number.number number.fits no_words))))

data_short : (words : List (List ℕ)) → data_of words ≡ Some tt → AreShort 8215 words
unfolding data_of
data_short words read =
    let file = number_step 32 words _ tt small read in
    let index = number_step 32 file.rest _ tt small file.then in
    let bytes = passing_step (is_hex 4096 4096) index.rest _ tt index.then in
    let end = at_end-Some tt tt bytes.rest bytes.then in
    rw (file.words_are, index.words_are, bytes.words_are, end.1)
    (small_word file.number file.fits (small_word index.number index.fits (hex_word 4096 4096 bytes.word bytes.passes no_words)))

-- the words of a line of a listing are those of one line
pub listed_line : (words : List (List ℕ)) → listed_of words ≡ Some tt → IsOneLine words
unfolding listed_of
listed_line [] read = cc read
listed_line (name ∷ words) read =
    by_name (codes "file") name _ _ tt read (λ met is. as_name (codes "file") refl (omega arith) met 200 (omega arith) (file_short words is)) (λ read.
    by_name (codes "name") name _ _ tt read (λ met is. as_name (codes "name") refl (omega arith) met 544 (omega arith) (name_short words is)) (λ read.
    by_name (codes "data") name _ _ tt read (λ met is. as_name (codes "data") refl (omega arith) met 8215 (omega arith) (data_short words is)) (λ none. cc none)))
  where
    as_name : (first : List ℕ) → IsWord first → length first ≤ 10 → name ≡ first → (most : ℕ) → most ≤ 9000 → AreShort most words → IsOneLine (name ∷ words)
    as_name first is short met most few are = rw met (one_line (10 + 1 + most) (first ∷ words) (omega arith) (omega (arith, few)) (name_word first is short are))
