-- Bytes that spell references, and the references in them.
use Rattle.std.proofs.Common.{◌≡◌, ℕ, zero, suc, ◌+◌, ◌*◌, ◌^◌, ◌<◌, Bool, true, false, ◌||◌, ◌&&◌, nat_eq, List, [], ◌∷◌, ◌++◌, length, get_or, take, drop, Option, Some, None, refl, sym, ap, subst, ◌∙◌, append_assoc, add-one, arith, inl, inr}
use Rattle.std.specs.Prelude.{slice_get, slice_set, replicate, IsTrue, ◌↔◌}
use Rattle.std.specs.Int.{w32, to_be_bytes, from_be_bytes}
use Rattle.std.proofs.Math.Bool.{not}
use Rattle.std.proofs.lemmas.Bool.{cases_lt, true≢false}
use Rattle.std.proofs.lemmas.Bool.Decides.{nat_tests}
use Rattle.std.proofs.lemmas.List.{take_at, drop_at, drop-drop, take-append-drop, length-drop, length-replicate, length-set}
use Rattle.std.proofs.lemmas.Nat.{be_bytes_4, from_be_bytes-to_be_bytes_4}
use borrow.Rule.Slice.PartMut.{put_mid}
use Rattle.sfs_base.specs.Reading.{IsBytes}
use Rattle.fs_layout.specs.declared.reference.Reference.{Reference}
use Rattle.fs_layout.specs.Words.{AreWords, spelled}
use Rattle.fs_layout.specs.References.{reference_words}
use Rattle.fs_layout.proofs.WordLemmas.{take_split, spelled-append, length-spelled, words_one}
use Rattle.fs_chain.specs.ReferenceLists.{references_words, reference_in, references_in, SpellReferences, IsSpelledReference}
use Rattle.fs_chain.proofs.ReferencesLemmas.{AreWords-before, AreWords-behind, AreWords-append, no_words, word_pair, length-spelled_reference, references-cons, references_none, length-references, bytes_at, words_at}

-- ---- bytes that spell references

-- a reference, by its two words
test_is : (m p : ℕ) → IsTrue (not (nat_eq p 0) || nat_eq m 0) → p ≡ 0 → m ≡ 0
test_is m p told none = grind (arith, nat_tests)

test_of : (m p : ℕ) → (p ≡ 0 → m ≡ 0) → IsTrue (not (nat_eq p 0) || nat_eq m 0)
test_of m zero so = grind (arith, nat_tests, so refl)
test_of m (suc b) so = grind (arith, nat_tests)

spelled-two : (m p : ℕ) (words : List ℕ) → spelled (m ∷ p ∷ words) ≡ to_be_bytes w32 m ++ (to_be_bytes w32 p ++ spelled words)
unfolding spelled
spelled-two m p words = refl

four_bytes : (a b c d : ℕ) → a < 256 → b < 256 → c < 256 → d < 256 → IsBytes (a ∷ b ∷ c ∷ d ∷ [])
four_bytes a b c d p q r s zero = p
four_bytes a b c d p q r s (suc zero) = q
four_bytes a b c d p q r s (suc (suc zero)) = r
four_bytes a b c d p q r s (suc (suc (suc zero))) = s
four_bytes a b c d p q r s (suc (suc (suc (suc i)))) = omega arith

-- eight bytes are their two words
pub words_of_eight : (bytes : List ℕ) (m p : ℕ) → length bytes ≡ 8 → IsBytes bytes
    → m ≡ from_be_bytes w32 (get_or bytes 0 0 ∷ get_or bytes 1 0 ∷ get_or bytes 2 0 ∷ get_or bytes 3 0 ∷ [])
    → p ≡ from_be_bytes w32 (get_or bytes 4 0 ∷ get_or bytes 5 0 ∷ get_or bytes 6 0 ∷ get_or bytes 7 0 ∷ []) → bytes ≡ spelled (m ∷ p ∷ [])
unfolding spelled
words_of_eight (a ∷ b ∷ c ∷ d ∷ e ∷ f ∷ g ∷ h ∷ []) m p sized fits first second =
    let front : to_be_bytes w32 m ≡ a ∷ b ∷ c ∷ d ∷ [] = be_bytes_4 (a ∷ b ∷ c ∷ d ∷ []) m refl (four_bytes a b c d (fits 0) (fits 1) (fits 2) (fits 3)) first in
    let back : to_be_bytes w32 p ≡ e ∷ f ∷ g ∷ h ∷ [] = be_bytes_4 (e ∷ f ∷ g ∷ h ∷ []) p refl (four_bytes e f g h (fits 4) (fits 5) (fits 6) (fits 7)) second in
    sym (spelled-two m p [] ∙ ap (λ (xs : List ℕ). xs ++ (to_be_bytes w32 p ++ [])) front ∙ ap (λ (ys : List ℕ). (a ∷ b ∷ c ∷ d ∷ []) ++ (ys ++ [])) back)
words_of_eight bytes m p sized fits first second = absurd (omega arith)

told : (m p : ℕ) (bytes : List ℕ) → (p ≡ 0 → m ≡ 0) → AreWords (m ∷ p ∷ []) → bytes ≡ spelled (m ∷ p ∷ []) → IsSpelledReference bytes
told m zero bytes so fits are =
    let none : m ∷ 0 ∷ [] ≡ 0 ∷ 0 ∷ [] = ap (λ (k : ℕ). k ∷ 0 ∷ []) (so refl) in
    record { reference = None; words = subst AreWords none fits; bytes_are = are ∙ ap spelled none }
told m (suc b) bytes so fits are =
    let next : m ∷ suc b ∷ [] ≡ m ∷ (b + 1) ∷ [] = ap (λ (k : ℕ). m ∷ k ∷ []) (sym (add-one b)) in
    record { reference = Some (record { memory = m; block = b }); words = subst AreWords next fits; bytes_are = are ∙ ap spelled next }

so_told : (m p : ℕ) (r : Option Reference) → m ∷ p ∷ [] ≡ reference_words r → p ≡ 0 → m ≡ 0
so_told m p None e none = cc
so_told m p (Some r) e none = let some : p ≡ r.block + 1 = cc in absurd (omega arith)

-- the test of the two words is exact
pub reference_told : (m p : ℕ) (bytes : List ℕ) → m < 2 ^ 32 → p < 2 ^ 32 → bytes ≡ spelled (m ∷ p ∷ []) → IsTrue (not (nat_eq p 0) || nat_eq m 0) ↔ IsSpelledReference bytes
reference_told m p bytes first second are =
    let fits : AreWords (m ∷ p ∷ []) = word_pair m p first second in (
      λ test. told m p bytes (test_is m p test) fits are,
      λ is. test_of m p (so_told m p is.reference (words_one (m ∷ p ∷ []) (reference_words is.reference) fits is.words (sym are ∙ is.bytes_are))),
    )

-- every eighth byte begins a reference
abbrev pub AreReferencesBelow : ℕ → List ℕ → Type 0
AreReferencesBelow n bytes = (i : ℕ) → i < n → IsSpelledReference (take 8 (drop (8 * i) bytes))

pub none_below : (bytes : List ℕ) → IsTrue true ↔ AreReferencesBelow 0 bytes
none_below bytes = (λ t i below. absurd (omega arith), λ all. refl)

pub more_below : (all here : Bool) (n k : ℕ) (bytes : List ℕ) → k ≡ 8 → (IsTrue all ↔ AreReferencesBelow n bytes) → (IsTrue here ↔ IsSpelledReference (take k (drop (8 * n) bytes)))
    → IsTrue (all && here) ↔ AreReferencesBelow (n + 1) bytes
more_below all here n k bytes eight before last = (forth all here before last, back all here before last)
  where
    Here : Bool → Type 0
    Here b = IsTrue b ↔ IsSpelledReference (take k (drop (8 * n) bytes))

    forth : (a b : Bool) → (IsTrue a ↔ AreReferencesBelow n bytes) → Here b → IsTrue (a && b) → AreReferencesBelow (n + 1) bytes
    forth true b before last test i below =
        elim (cases_lt i n) [
          | inl earlier ↦ before.0 refl i earlier
          | inr here ↦
              let at : i ≡ n = omega arith in
              subst (λ (j : ℕ). IsSpelledReference (take 8 (drop (8 * j) bytes))) (sym at) (subst (λ (j : ℕ). IsSpelledReference (take j (drop (8 * n) bytes))) eight (last.0 test))
        ]
    forth false b before last test i below = absurd (true≢false (sym test))

    back : (a b : Bool) → (IsTrue a ↔ AreReferencesBelow n bytes) → Here b → AreReferencesBelow (n + 1) bytes → IsTrue (a && b)
    back true b before last are = last.1 (subst (λ (j : ℕ). IsSpelledReference (take j (drop (8 * n) bytes))) (sym eight) (are n (omega arith)))
    back false b before last are = absurd (true≢false (sym (before.1 (λ i below. are i (omega arith)))))

-- the references that bytes are
record Parts (n : ℕ) (bytes : List ℕ) : Type 0 where
  references : List (Option Reference)
  sized : length references ≡ n
  words : AreWords (references_words references)
  bytes_are : bytes ≡ spelled (references_words references)

parts_are : (n : ℕ) (bytes : List ℕ) → length bytes ≡ 8 * n → AreReferencesBelow n bytes → Parts n bytes
unfolding spelled references_words
parts_are zero [] sized are = record { references = []; sized = refl; words = no_words; bytes_are = refl }
parts_are zero (b ∷ bytes) sized are = absurd (omega arith)
parts_are (suc n) bytes sized are =
    let first : IsSpelledReference (take 8 bytes) = are 0 (omega arith) in
    let rest : Parts n (drop 8 bytes) =
    parts_are n (drop 8 bytes) (omega (arith, length-drop 8 bytes))
    (λ i below. subst (λ (xs : List ℕ). IsSpelledReference (take 8 xs)) (later i) (are (suc i) (omega arith))) in
    let r = first.reference in
    record {
      references = r ∷ rest.references;
      sized = omega (arith, rest.sized);
      words = subst AreWords (sym (references-cons r rest.references)) (AreWords-append (reference_words r) (references_words rest.references) first.words rest.words);
      bytes_are =
          sym (take-append-drop 8 bytes)
          ∙ ap (λ (xs : List ℕ). xs ++ drop 8 bytes) first.bytes_are
          ∙ ap (λ (ys : List ℕ). spelled (reference_words r) ++ ys) rest.bytes_are
          ∙ sym (spelled-append (reference_words r) (references_words rest.references))
          ∙ ap spelled (sym (references-cons r rest.references));
    }
  where
    later : (i : ℕ) → drop (8 * suc i) bytes ≡ drop (8 * i) (drop 8 bytes)
    later i = ap (λ (k : ℕ). drop k bytes) (omega arith) ∙ sym (drop-drop (8 * i) 8 bytes)

-- ---- the references in bytes

two_words_in : (m p : ℕ) (bytes : List ℕ) → m < 2 ^ 32 → p < 2 ^ 32 → references_in (to_be_bytes w32 m ++ (to_be_bytes w32 p ++ bytes)) ≡ reference_in m p ∷ references_in bytes
unfolding references_in
two_words_in m p bytes first second =
    ap (λ (k : ℕ). reference_in k (from_be_bytes w32 (to_be_bytes w32 p)) ∷ references_in bytes) (from_be_bytes-to_be_bytes_4 m first)
    ∙ ap (λ (k : ℕ). reference_in m k ∷ references_in bytes) (from_be_bytes-to_be_bytes_4 p second)

one_reference_in : (r : Option Reference) (words : List ℕ) → AreWords (reference_words r) → references_in (spelled (reference_words r ++ words)) ≡ r ∷ references_in (spelled words)
one_reference_in None words fits = ap references_in (spelled-two 0 0 words) ∙ two_words_in 0 0 (spelled words) (omega arith) (omega arith)
one_reference_in (Some r) words fits =
    ap references_in (spelled-two r.memory (r.block + 1) words)
    ∙ two_words_in r.memory (r.block + 1) (spelled words) (fits 0) (fits 1)
    ∙ ap (λ (p : ℕ). reference_in r.memory p ∷ references_in (spelled words)) (add-one r.block)

-- references are in the bytes that spell them
pub references_in_spelled : (rs : List (Option Reference)) → AreWords (references_words rs) → references_in (spelled (references_words rs)) ≡ rs
unfolding spelled references_in references_words
references_in_spelled [] fits = refl
references_in_spelled (r ∷ rs) fits =
    let both : AreWords (reference_words r ++ references_words rs) = subst AreWords (references-cons r rs) fits in
    ap (λ (ws : List ℕ). references_in (spelled ws)) (references-cons r rs)
    ∙ one_reference_in r (references_words rs) (AreWords-before (reference_words r) (references_words rs) both)
    ∙ ap (λ (ts : List (Option Reference)). r ∷ ts) (references_in_spelled rs (AreWords-behind (reference_words r) (references_words rs) both))

pub spelled_sized : (rs : List (Option Reference)) (bytes : List ℕ) → SpellReferences rs bytes → length bytes ≡ 4080
spelled_sized rs bytes is = omega (arith, ap (length {A = ℕ}) is.bytes_are, length-spelled (references_words rs), length-references rs, is.sized)

-- bytes that spell references are kept as these
pub references_only : (rs : List (Option Reference)) (bytes : List ℕ) → SpellReferences rs bytes → references_in bytes ≡ rs
references_only rs bytes is = ap references_in is.bytes_are ∙ references_in_spelled rs is.words

pub references_kept : (rs : List (Option Reference)) (bytes : List ℕ) → SpellReferences rs bytes → SpellReferences (references_in bytes) bytes
references_kept rs bytes is = subst (λ (ts : List (Option Reference)). SpellReferences ts bytes) (sym (references_only rs bytes is)) is

pub references_told : (all : Bool) (i : ℕ) (bytes : List ℕ) → i ≡ 510 → length bytes ≡ 4080 → (IsTrue all ↔ AreReferencesBelow i bytes)
    → IsTrue all ↔ SpellReferences (references_in bytes) bytes
references_told all i bytes end sized is = (
  λ test.
      let parts = parts_are 510 bytes sized (subst (λ (n : ℕ). AreReferencesBelow n bytes) end (is.0 test)) in
      references_kept parts.references bytes (record { sized = parts.sized; words = parts.words; bytes_are = parts.bytes_are }),
  λ spell. is.1 (λ k below.
      let rs = references_in bytes in
      let inside : k < length rs = omega (arith, spell.sized) in
      record {
        reference = get_or rs k None;
        words = words_at rs k inside spell.words;
        bytes_are = ap (λ (bs : List ℕ). take 8 (drop (8 * k) bs)) spell.bytes_are ∙ bytes_at rs k inside;
      }),
)

-- ---- no references, one reference, and one that is changed

spelled-none : (n : ℕ) → spelled (references_words (replicate n None)) ≡ replicate (8 * n) 0
unfolding spelled references_words
spelled-none zero = refl
spelled-none (suc n) =
    let more : suc (suc (suc (suc (suc (suc (suc (suc (8 * n)))))))) ≡ 8 * suc n = omega arith in
    ap spelled (references-cons None (replicate n None)) ∙ ap (λ (bs : List ℕ). 0 ∷ 0 ∷ 0 ∷ 0 ∷ 0 ∷ 0 ∷ 0 ∷ 0 ∷ bs) (spelled-none n) ∙ ap (λ (k : ℕ). replicate k 0) more

words-none : (n : ℕ) → AreWords (references_words (replicate n None))
words-none zero = subst AreWords (sym references_none) no_words
words-none (suc n) = subst AreWords (sym (references-cons None (replicate n None))) (AreWords-append (0 ∷ 0 ∷ []) (references_words (replicate n None)) (word_pair 0 0 (omega arith) (omega arith)) (words-none n))

pub none_kept : SpellReferences (replicate 510 None) (replicate 4080 0)
none_kept = record { sized = length-replicate {A = Option Reference} 510 None; words = words-none 510; bytes_are = sym (spelled-none 510) }

-- the reference at a place
pub reference_kept : (rs : List (Option Reference)) (bytes : List ℕ) (i k : ℕ) → SpellReferences rs bytes → i < 510 → k ≡ 8
    → AreWords (reference_words (get_or rs i None)) × (take k (drop (8 * i) bytes) ≡ spelled (reference_words (get_or rs i None)))
reference_kept rs bytes i k is below eight =
    let inside : i < length rs = omega (arith, is.sized) in (
      words_at rs i inside is.words,
      ap (λ (n : ℕ). take n (drop (8 * i) bytes)) eight ∙ ap (λ (bs : List ℕ). take 8 (drop (8 * i) bs)) is.bytes_are ∙ bytes_at rs i inside,
    )

pub element_at : (rs : List (Option Reference)) (i : ℕ) → i < length rs → slice_get rs i ≡ Some (get_or rs i None)
element_at [] i inside = absurd (omega arith)
element_at (r ∷ rs) zero inside = refl
element_at (r ∷ rs) (suc i) inside = element_at rs i (omega arith)

spelled-cons : (r : Option Reference) (rs : List (Option Reference)) → spelled (references_words (r ∷ rs)) ≡ spelled (reference_words r) ++ spelled (references_words rs)
spelled-cons r rs = ap spelled (references-cons r rs) ∙ spelled-append (reference_words r) (references_words rs)

spelled-set : (rs : List (Option Reference)) (i : ℕ) (r : Option Reference) → i < length rs
    → put_mid (8 * i) 8 (spelled (references_words rs)) (spelled (reference_words r)) ≡ spelled (references_words (slice_set rs i r))
spelled-set [] i r inside = absurd (omega arith)
spelled-set (s ∷ rs) zero r inside =
    let one = spelled (reference_words s) in
    let rest = spelled (references_words rs) in
    ap (λ (bs : List ℕ). spelled (reference_words r) ++ drop 8 bs) (spelled-cons s rs)
    ∙ ap (λ (bs : List ℕ). spelled (reference_words r) ++ bs) (drop_at one rest 8 (length-spelled_reference s))
    ∙ sym (spelled-cons r rs)
spelled-set (s ∷ rs) (suc i) r inside =
    let one = spelled (reference_words s) in
    let rest = spelled (references_words rs) in
    let new = spelled (reference_words r) in
    let next : 8 * suc i ≡ 8 + 8 * i = omega arith in
    let front : take (8 + 8 * i) (one ++ rest) ≡ one ++ take (8 * i) rest =
    take_split 8 (8 * i) (one ++ rest)
    ∙ ap (λ (bs : List ℕ). bs ++ take (8 * i) (drop 8 (one ++ rest))) (take_at one rest 8 (length-spelled_reference s))
    ∙ ap (λ (bs : List ℕ). one ++ take (8 * i) bs) (drop_at one rest 8 (length-spelled_reference s)) in
    let back : drop (8 + 8 * i) (one ++ rest) ≡ drop (8 * i) rest =
    sym (drop-drop (8 * i) 8 (one ++ rest)) ∙ ap (drop (8 * i)) (drop_at one rest 8 (length-spelled_reference s)) in
    ap (λ (bs : List ℕ). put_mid (8 * suc i) 8 bs new) (spelled-cons s rs)
    ∙ ap (λ (k : ℕ). put_mid k 8 (one ++ rest) new) next
    ∙ ap (λ (bs : List ℕ). bs ++ (new ++ drop 8 (drop (8 + 8 * i) (one ++ rest)))) front
    ∙ ap (λ (bs : List ℕ). (one ++ take (8 * i) rest) ++ (new ++ drop 8 bs)) back
    ∙ append_assoc one (take (8 * i) rest) (new ++ drop 8 (drop (8 * i) rest))
    ∙ ap (λ (bs : List ℕ). one ++ bs) (spelled-set rs i r (omega arith))
    ∙ sym (spelled-cons s (slice_set rs i r))

words-set : (rs : List (Option Reference)) (i : ℕ) (r : Option Reference) → AreWords (references_words rs) → AreWords (reference_words r) → AreWords (references_words (slice_set rs i r))
words-set [] i r fits one = fits
words-set (s ∷ rs) zero r fits one =
    let both = subst AreWords (references-cons s rs) fits in
    subst AreWords (sym (references-cons r rs)) (AreWords-append (reference_words r) (references_words rs) one (AreWords-behind (reference_words s) (references_words rs) both))
words-set (s ∷ rs) (suc i) r fits one =
    let both = subst AreWords (references-cons s rs) fits in
    subst AreWords (sym (references-cons s (slice_set rs i r)))
    (AreWords-append (reference_words s) (references_words (slice_set rs i r)) (AreWords-before (reference_words s) (references_words rs) both)
    (words-set rs i r (AreWords-behind (reference_words s) (references_words rs) both) one))

pub set_kept : (rs : List (Option Reference)) (bytes part : List ℕ) (i k : ℕ) (r : Option Reference) → SpellReferences rs bytes → i < 510 → k ≡ 8 → AreWords (reference_words r)
    → part ≡ spelled (reference_words r) → SpellReferences (slice_set rs i r) (put_mid (8 * i) k bytes part)
set_kept rs bytes part i k r is below eight fits written = record {
  sized = length-set rs i r ∙ is.sized;
  words = words-set rs i r is.words fits;
  bytes_are =
      ap (λ (bs : List ℕ). put_mid (8 * i) k bytes bs) written
      ∙ ap (λ (n : ℕ). put_mid (8 * i) n bytes (spelled (reference_words r))) eight
      ∙ ap (λ (bs : List ℕ). put_mid (8 * i) 8 bs (spelled (reference_words r))) is.bytes_are
      ∙ spelled-set rs i r (omega (arith, is.sized));
}
