-- The words of a command line.
use Rattle.std.proofs.Common.{◌≡◌, ℕ, ◌+◌, ◌^◌, ◌<◌, ◌≤◌, List, [], ◌∷◌, length, map, get_or, take, drop, Option, Some, None, Result, Ok, Err, refl, sym, ap, subst, ◌∙◌, arith}
use Rattle.std.specs.Prelude.{position}
use Rattle.std.specs.Option.{option_map}
use Rattle.std.specs.Result.{result_ok}
use Rattle.line_words.specs.declared.line_fault.LineFault.{LineFault}
use Rattle.line_words.specs.Words.{words_of, number_of}
use Rattle.line_words.specs.Reading.{◌>>=◌, at_end, AnswersBad}
use Rattle.line_words.proofs.WordsLemmas.{is_space, words_of-space, words_of-one, at_end-words_of}
use Rattle.line_words.proofs.NumberLemmas.{number_of-Some}
use Rattle.line_words.proofs.SpellingLemmas.{one_line, wide_word, no_words}
use Rattle.sfs.specs.Command.{asked, only_number}
use Rattle.sfs.specs.declared.status.Status.{Status}
use Rattle.sfs.specs.declared.status.Status.TheVariants as status
use Rattle.check_input.specs.Whole.{OfText}
use Rattle.check_command.specs.declared.found.Found.{Found}
use Rattle.check_command.specs.declared.found.Found.TheVariants as found
use Rattle.check_command.specs.Command.{WasTold}
use Rattle.sfs.specs.Run.{Transcribes, TellsTree, Checks, Makes, Causes, status_of}

-- ---- the number that one word spells

-- a numeral is one word
one_numeral : (bits : ℕ) (word : List ℕ) (n : ℕ) → 2 ^ bits ≤ 2 ^ 64 → number_of bits word ≡ Some n → words_of word ≡ word ∷ []
one_numeral bits word n wide read =
    let is = number_of-Some bits word n wide read in
    let below : n < 2 ^ 64 = omega (arith, is.0, wide) in
    subst (λ (w : List ℕ). words_of w ≡ w ∷ []) (sym is.1) (one_line 21 _ (omega arith) (omega arith) (wide_word n below no_words)).parts

-- a number and the words behind it
abbrev pub before : List (List ℕ) → ℕ → ℕ × List (List ℕ)
before words n = (n, words)

-- it is the last word
abbrev pub last : Option (ℕ × List (List ℕ)) → Option ℕ
last read = read >>= (λ (r : ℕ × List (List ℕ)). at_end r.0 r.1)

-- where words stand behind the first, no number is read of all
none_of_more : (o : Option ℕ) (rest : List ℕ) → last (option_map (before (words_of rest)) o) ≡ None
none_of_more None rest = refl
none_of_more (Some n) rest = at_end-words_of n rest

-- a number that all words of a line are is that of the line
pub read_alone : (bits : ℕ) (word : List ℕ) → 2 ^ bits ≤ 2 ^ 64 → only_number bits (words_of word) ≡ number_of bits word
unfolding only_number
read_alone bits word wide = by_number (number_of bits word) refl
  where
    by_place : (p : Option ℕ) → position is_space word ≡ p → number_of bits word ≡ None → only_number bits (words_of word) ≡ None
    by_place None at none = ap (only_number bits) (words_of-one word at) ∙ ap (λ (o : Option ℕ). last (option_map (before []) o)) none
    by_place (Some end) at none = ap (only_number bits) (words_of-space word end at) ∙ none_of_more (number_of bits (take end word)) (drop (end + 1) word)

    by_number : (o : Option ℕ) → number_of bits word ≡ o → only_number bits (words_of word) ≡ o
    by_number None is = by_place (position is_space word) refl is
    by_number (Some n) is = ap (only_number bits) (one_numeral bits word n wide is) ∙ ap (λ (o : Option ℕ). last (option_map (before []) o)) is

-- what a reader answered, as an option
pub answered : {X : Type 0} (r : Result X LineFault) (o : Option X) → AnswersBad r o → result_ok r ≡ o
answered (Ok x) o is = sym is
answered (Err fault) o is = sym is.1

-- ---- how many words there are

-- a list of one
pub one_word : {X Y : Type 0} (f : X → Y) (words : List X) (w : X) → 1 ≤ length words → length words < 2 → w ≡ get_or words 0 w → map f words ≡ f w ∷ []
one_word f [] w some few is = absurd (omega (arith, some))
one_word f (x ∷ []) w some few is = ap (λ y. f y ∷ []) (sym is)
one_word f (x ∷ y ∷ words) w some few is = absurd (omega (arith, few))

-- a list of three
pub three_words : {X Y : Type 0} (f : X → Y) (words : List X) (a b c : X) → 3 ≤ length words → length words < 4 → a ≡ get_or words 0 a → b ≡ get_or words 1 b → c ≡ get_or words 2 c
    → map f words ≡ f a ∷ f b ∷ f c ∷ []
three_words f [] a b c some few first second third = absurd (omega (arith, some))
three_words f (x ∷ []) a b c some few first second third = absurd (omega (arith, some))
three_words f (x ∷ y ∷ []) a b c some few first second third = absurd (omega (arith, some))
three_words f (x ∷ y ∷ z ∷ []) a b c some few first second third = rw (first, second, third) refl
three_words f (x ∷ y ∷ z ∷ w ∷ words) a b c some few first second third = absurd (omega (arith, few))

-- other lists ask for nothing
pub nothing_asked : {X : Type 0} (f : X → List ℕ) (words : List X) → (length words ≡ 1 → ⊥) → (length words ≡ 3 → ⊥) → asked (map f words) ≡ None
nothing_asked f [] one three = refl
nothing_asked f (x ∷ []) one three = absurd (one refl)
nothing_asked f (x ∷ y ∷ []) one three = refl
nothing_asked f (x ∷ y ∷ z ∷ []) one three = absurd (three refl)
nothing_asked f (x ∷ y ∷ z ∷ w ∷ words) one three = refl

-- ---- what a command that ran is not

-- one that was replayed or made was asked for
pub not_replayed : (left left' held held' : Option (List ℕ)) (s : Status) → Transcribes left left' held held' s → s ≡ status.Usage → ⊥
not_replayed left left' held held' s did is = subst (Transcribes left left' held held') is did

pub not_listed : (left held held' : Option (List ℕ)) (s : Status) → TellsTree left held held' s → s ≡ status.Usage → ⊥
not_listed left held held' s did is = subst (TellsTree left held held') is did

pub not_made : (text : List ℕ) (held held' : Option (List ℕ)) (s : Status) → Makes text held held' s → s ≡ status.Usage → ⊥
not_made text held held' s did is = subst (Makes text held held') is did

pub not_checked : (left held held' : Option (List ℕ)) (s : Status) → Checks left held held' s → s ≡ status.Usage → ⊥
not_checked left held held' s did is = subst (Checks left held held') is did

-- ---- what was found

pub found_as : (left held held' : Option (List ℕ)) (f : Found) (s : Status) → OfText left (WasTold held held' f) → s ≡ status_of f → Checks left held held' s
found_as left held held' found.Holds s did is = rw is did
found_as left held held' (found.Fails line) s did is = rw is (line, did)
found_as left held held' (found.Refused line) s did is = rw is (line, did)

pub found_counted : (read read' written written' : ℕ) (f : Found) (s : Status) → (read' ≡ read) × (written' ≡ written) → s ≡ status_of f → Causes read read' written written' s
found_counted read read' written written' found.Holds s counts is = rw is counts
found_counted read read' written written' (found.Fails line) s counts is = rw is counts
found_counted read read' written written' (found.Refused line) s counts is = rw is counts
