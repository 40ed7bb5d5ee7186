-- References, one behind the other.
use Rattle.std.proofs.Common.{◌≡◌, ℕ, zero, suc, ◌+◌, ◌*◌, ◌^◌, ◌<◌, List, [], ◌∷◌, ◌++◌, length, get_or, take, drop, Option, Some, None, Ok, Result, refl, sym, ap, subst, ◌∙◌, arith, inl, inr}
use Rattle.std.specs.Prelude.{is_some}
use Rattle.std.specs.Result.{result_ok}
use Rattle.std.specs.List.{flat_map}
use Rattle.std.proofs.lemmas.Bool.{cases_lt, true≢false}
use Rattle.std.proofs.lemmas.List.{take_at, drop_at, drop-drop, length-append, get_or_append_left, get_or-append-add, get_or_past}
use Rattle.std.proofs.lemmas.List.Concat.{flat_map-cons}
use Rattle.fs_layout.specs.declared.reference.Reference.{Reference}
use Rattle.fs_layout.specs.Words.{AreWords, spelled}
use Rattle.fs_layout.specs.References.{IsReference, reference_words}
use Rattle.fs_layout.proofs.WordLemmas.{spelled-append, length-spelled}
use Rattle.fs_layout.proofs.RecordLemmas.{length-reference, reference_front}
use Rattle.fs_chain.specs.ReferenceLists.{references_words}

-- ---- answers

-- an option has no two values
pub none_some : {X : Type 0} (o : Option X) (x : X) → o ≡ Some x → o ≡ None → ⊥
none_some o x e f = true≢false (ap is_some (sym e ∙ f))

pub some_one : {X : Type 0} (o : Option X) (x y : X) → o ≡ Some x → o ≡ Some y → x ≡ y
some_one o x y e f = cc

pub ok_one : {X E : Type 0} (r : Result X E) (x y : X) → r ≡ Ok x → r ≡ Ok y → x ≡ y
ok_one r x y e f = cc

-- what `ok` gives
pub ok_some : {X E : Type 0} (r : Result X E) (o : Option X) (x : X) → r ≡ Ok x → o ≡ result_ok r → o ≡ Some x
ok_some r o x e v = v ∙ ap result_ok e

-- ---- words in parts

pub AreWords-before : (xs ys : List ℕ) → AreWords (xs ++ ys) → AreWords xs
AreWords-before xs ys fits i =
    elim (cases_lt i (length xs)) [
      | inl below ↦ rw (get_or_append_left xs ys 0 i below) at (fits i)
      | inr past ↦ rw (get_or_past xs i 0 past) (omega arith)
    ]

pub AreWords-behind : (xs ys : List ℕ) → AreWords (xs ++ ys) → AreWords ys
AreWords-behind xs ys fits i = rw get_or-append-add at (fits (length xs + i))

pub AreWords-append : (xs ys : List ℕ) → AreWords xs → AreWords ys → AreWords (xs ++ ys)
AreWords-append [] ys first second i = second i
AreWords-append (x ∷ xs) ys first second zero = first 0
AreWords-append (x ∷ xs) ys first second (suc i) = AreWords-append xs ys (λ k. first (suc k)) second i

pub no_words : AreWords []
no_words i = omega arith

pub word_pair : (m p : ℕ) → m < 2 ^ 32 → p < 2 ^ 32 → AreWords (m ∷ p ∷ [])
word_pair m p first second zero = first
word_pair m p first second (suc zero) = second
word_pair m p first second (suc (suc i)) = omega arith

-- ---- one reference

-- a reference has words exactly where its words are words
pub reference_fits : (r : Option Reference) → AreWords (reference_words r) → IsReference r
reference_fits None fits = tt
reference_fits (Some r) fits = (fits 0, fits 1)

pub fitting_words : (r : Option Reference) → IsReference r → AreWords (reference_words r)
fitting_words None is = word_pair 0 0 (omega arith) (omega arith)
fitting_words (Some r) is = word_pair r.memory (r.block + 1) is.0 is.1

pub length-spelled_reference : (r : Option Reference) → length (spelled (reference_words r)) ≡ 8
length-spelled_reference r = omega (arith, length-spelled (reference_words r), length-reference r)

-- a reference's words, one by one
cells : (r : Option Reference) → reference_words r ≡ get_or (reference_words r) 0 0 ∷ get_or (reference_words r) 1 0 ∷ []
cells None = refl
cells (Some r) = refl

pub two_cells : (words : List ℕ) (r : Option Reference) → words ≡ reference_words r → reference_words r ≡ get_or words 0 0 ∷ get_or words 1 0 ∷ []
two_cells words r e = cells r ∙ sym (ap (λ (ws : List ℕ). get_or ws 0 0 ∷ get_or ws 1 0 ∷ []) e)

-- ---- references

pub references-cons : (r : Option Reference) (rs : List (Option Reference)) → references_words (r ∷ rs) ≡ reference_words r ++ references_words rs
unfolding references_words
references-cons r rs = flat_map-cons reference_words r rs

pub references_none : references_words [] ≡ []
unfolding references_words
references_none = refl

pub length-references : (rs : List (Option Reference)) → length (references_words rs) ≡ 2 * length rs
unfolding references_words
length-references [] = refl
length-references (r ∷ rs) =
    ap (length {A = ℕ}) (flat_map-cons reference_words r rs) ∙ omega (arith, length-append (reference_words r) (flat_map reference_words rs), length-reference r, length-references rs)

-- references with the same words are the same
pub references_one : (rs ss : List (Option Reference)) → references_words rs ≡ references_words ss → rs ≡ ss
references_one [] [] e = refl
references_one [] (s ∷ ss) e = absurd (omega (arith, ap (length {A = ℕ}) e, length-references [], length-references (s ∷ ss)))
references_one (r ∷ rs) [] e = absurd (omega (arith, ap (length {A = ℕ}) e, length-references [], length-references (r ∷ rs)))
references_one (r ∷ rs) (s ∷ ss) e =
    let parts = reference_front r s (references_words rs) (references_words ss) (sym (references-cons r rs) ∙ e ∙ references-cons s ss) in
    ap (λ (t : Option Reference). t ∷ rs) parts.0 ∙ ap (λ (ts : List (Option Reference)). s ∷ ts) (references_one rs ss parts.1)

-- the bytes of the one at a place
pub bytes_at : (rs : List (Option Reference)) (i : ℕ) → i < length rs → take 8 (drop (8 * i) (spelled (references_words rs))) ≡ spelled (reference_words (get_or rs i None))
bytes_at [] i inside = absurd (omega arith)
bytes_at (r ∷ rs) zero inside =
    ap (λ (ws : List ℕ). take 8 (drop (8 * 0) (spelled ws))) (references-cons r rs)
    ∙ ap (take 8) (spelled-append (reference_words r) (references_words rs))
    ∙ take_at (spelled (reference_words r)) (spelled (references_words rs)) 8 (length-spelled_reference r)
bytes_at (r ∷ rs) (suc i) inside =
    let next : 8 * suc i ≡ 8 + 8 * i = omega arith in
    ap (λ (ws : List ℕ). take 8 (drop (8 * suc i) (spelled ws))) (references-cons r rs)
    ∙ ap (λ (bs : List ℕ). take 8 (drop (8 * suc i) bs)) (spelled-append (reference_words r) (references_words rs))
    ∙ ap (λ (n : ℕ). take 8 (drop n (spelled (reference_words r) ++ spelled (references_words rs)))) next
    ∙ ap (take 8) (sym (drop-drop (8 * i) 8 (spelled (reference_words r) ++ spelled (references_words rs))))
    ∙ ap (λ (bs : List ℕ). take 8 (drop (8 * i) bs)) (drop_at (spelled (reference_words r)) (spelled (references_words rs)) 8 (length-spelled_reference r))
    ∙ bytes_at rs i (omega arith)

pub words_at : (rs : List (Option Reference)) (i : ℕ) → i < length rs → AreWords (references_words rs) → AreWords (reference_words (get_or rs i None))
words_at [] i inside fits = absurd (omega arith)
words_at (r ∷ rs) zero inside fits = AreWords-before (reference_words r) (references_words rs) (subst AreWords (references-cons r rs) fits)
words_at (r ∷ rs) (suc i) inside fits = words_at rs i (omega arith) (AreWords-behind (reference_words r) (references_words rs) (subst AreWords (references-cons r rs) fits))
