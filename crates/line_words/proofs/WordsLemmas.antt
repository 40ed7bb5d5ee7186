-- The words of a line, and the line of words.
use Rattle.std.proofs.Common.{◌≡◌, ℕ, ◌+◌, ◌<◌, ◌≤◌, ◌==◌, Bool, true, false, List, [], ◌∷◌, ◌++◌, length, take, drop, Option, Some, None, refl, sym, ap, ◌∙◌, append_assoc, arith}
use Rattle.std.specs.Prelude.{position, nat_lt, cond}
use Rattle.std.specs.Borrow.{Bor}
use Rattle.std.specs.List.{position_or_len}
use borrow.Author.Tests.{ltb-true, ltb-false}
use Rattle.std.proofs.lemmas.List.Sums.{fails_before_first}
use Rattle.std.proofs.lemmas.Option.{cond_some}
use Rattle.std.proofs.lemmas.List.Splits.{slice_split_first, slice_split_none, length-slice_split}
use Rattle.line_words.specs.Words.{space, words_of, text_of_words, words_left}
use Rattle.line_words.specs.Reading.{at_end}

-- the test for the byte between words
abbrev pub is_space : ℕ → Bool
is_space byte = byte == space

-- a choice that gave nothing
cond_none : {A : Type 0} (b : Bool) (x : A) → cond b (Some x) None ≡ None → b ≡ false
cond_none true x is = cc
cond_none false x is = refl

-- the first word ends at the first space
pub words_of-space : (line : List ℕ) (end : ℕ) → position is_space line ≡ Some end
    → words_of line ≡ take end line ∷ words_of (drop (end + 1) line)
words_of-space line end at =
    let found = cond_some (nat_lt (position_or_len is_space line) (length line)) (position_or_len is_space line) end at in
    rw (sym found.1) (slice_split_first is_space line 0 (ltb-true _ _ found.0))

-- a line without a space is one word
pub words_of-one : (line : List ℕ) → position is_space line ≡ None → words_of line ≡ line ∷ []
words_of-one line none = slice_split_none is_space line (λ k d within.
    let all : length line ≤ position_or_len is_space line = omega (arith, ltb-false _ _ (cond_none (nat_lt (position_or_len is_space line) (length line)) _ none)) in
    fails_before_first is_space line k d (omega arith))

-- where a part of a line is left, a word is
pub at_end-words_of : {X : Type 0} (x : X) (line : List ℕ) → at_end x (words_of line) ≡ None
at_end-words_of x line = more x (words_of line) (omega (arith, length-slice_split is_space line))
  where
    more : {X : Type 0} (x : X) (words : List (List ℕ)) → 0 < length words → at_end x words ≡ None
    more x [] some = absurd (omega arith)
    more x (word ∷ words) some = refl

-- the same of words that are left
pub at_end-left : {X : Type 0} (x : X) (rest : Option (Bor (List ℕ))) (part : Bor (List ℕ)) → rest ≡ Some part
    → at_end x (words_left rest) ≡ None
at_end-left x rest part is = rw is (at_end-words_of x part.now)

-- one more word at the end of a line
pub text_of_words-push : (words : List (List ℕ)) (word : List ℕ) → 0 < length words
    → text_of_words (words ++ word ∷ []) ≡ text_of_words words ++ space ∷ word
text_of_words-push [] word some = absurd (omega arith)
text_of_words-push (first ∷ []) word some = refl
text_of_words-push (first ∷ next ∷ rest) word some =
    ap (λ (text : List ℕ). first ++ space ∷ text) (text_of_words-push (next ∷ rest) word (omega arith))
    ∙ sym (append_assoc first (space ∷ text_of_words (next ∷ rest)) (space ∷ word))
