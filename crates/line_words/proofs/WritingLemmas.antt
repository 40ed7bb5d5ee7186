-- Words that are written one after another.
use Rattle.std.proofs.Common.{◌≡◌, ℕ, ◌+◌, ◌<◌, List, [], ◌∷◌, ◌++◌, length, take, get_or, map, inl, inr, refl, sym, ap, ◌∙◌, append_assoc, arith}
use Rattle.std.proofs.Math.ListN.{length-map}
use Rattle.std.proofs.lemmas.Bool.{cases_lt, ne_eqb}
use Rattle.std.proofs.lemmas.List.{length-take-le, map_more}
use Rattle.line_words.specs.Words.{space, text_of_words}
use Rattle.line_words.specs.Writing.{text_of, separator_before}
use Rattle.line_words.specs.declared.word.Word.{Word}
use Rattle.line_words.proofs.WordsLemmas.{text_of_words-push}

-- one more word of a line
text_of_words-more : (words : List Word) (i : ℕ) (d : Word) → i < length words
    → text_of_words (map text_of (take (i + 1) words))
    ≡ text_of_words (map text_of (take i words)) ++ separator_before i ++ text_of (get_or words i d)
text_of_words-more words i d within =
    rw (map_more text_of words i d within) (elim (cases_lt 0 i) [
      | inl later ↦
          let whole = length-take-le i words (omega arith) in
          let some : 0 < length (map text_of (take i words)) = simp (length-map, whole) later in
          rw (ne_eqb i 0 (λ none. omega arith))
          (text_of_words-push (map text_of (take i words)) (text_of (get_or words i d)) some
          ∙ sym (append_assoc (text_of_words (map text_of (take i words))) (space ∷ []) (text_of (get_or words i d))))
      | inr first ↦
          let zero : i ≡ 0 = omega arith in
          rw zero refl
    ])

-- a separator and a word, written behind the words so far
pub words_written : (front before between now : List ℕ) (words : List Word) (i : ℕ) (d : Word) → i < length words
    → before ≡ front ++ text_of_words (map text_of (take i words)) → between ≡ before ++ separator_before i
    → now ≡ between ++ text_of (get_or words i d) → now ≡ front ++ text_of_words (map text_of (take (i + 1) words))
words_written front before between now words i d within so_far separated written =
    let line = text_of_words (map text_of (take i words)) in
    let separator = separator_before i in
    let text = text_of (get_or words i d) in
    written
    ∙ ap (λ (b : List ℕ). b ++ text) (separated ∙ ap (λ (b : List ℕ). b ++ separator) so_far)
    ∙ ap (λ (b : List ℕ). b ++ text) (append_assoc front line separator)
    ∙ append_assoc front (line ++ separator) text
    ∙ ap (λ (b : List ℕ). front ++ b) (sym (text_of_words-more words i d within))
