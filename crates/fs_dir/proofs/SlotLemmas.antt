-- One slot and the bytes that spell it.
use Rattle.std.proofs.Common.{◌≡◌, ℕ, zero, suc, ◌+◌, ◌-◌, ◌^◌, ◌<◌, ◌≤◌, List, [], ◌∷◌, ◌++◌, length, get_or, take, drop, refl, sym, ap, subst, ◌∙◌, append_assoc, arith}
use Rattle.std.specs.Prelude.{replicate}
use Rattle.std.proofs.lemmas.List.{take_at, drop_at, take-append-drop, length-append, length-replicate, length-take, length-drop, replicate-append-replicate, nil_from_length}
use Rattle.sfs_base.specs.Reading.{IsBytes}
use Rattle.sfs_base.proofs.ReadingLemmas.{IsBytes-take, IsBytes-drop}
use Rattle.fs_layout.specs.Words.{AreWords, spelled}
use Rattle.fs_layout.proofs.WordLemmas.{length-spelled, words_one}
use Rattle.fs_dir.specs.declared.slot.Slot.{Slot}
use Rattle.fs_dir.specs.Slots.{slot_of, IsSlot, FitsSlot, SpellsSlot, slot_bytes}

-- the words before a slot's name
abbrev pub head_of : Slot → List ℕ
head_of s = s.number ∷ length s.name ∷ []

pub length-head : (s : Slot) → length (spelled (head_of s)) ≡ 8
length-head s = length-spelled (head_of s)

-- all zeros behind the name
zeros_of : (s : Slot) → length s.name ≤ 255 → replicate {A = ℕ} (255 - length s.name) 0 ++ replicate {A = ℕ} 9 0 ≡ replicate {A = ℕ} (264 - length s.name) 0
zeros_of s short =
    let sum : 255 - length s.name + 9 ≡ 264 - length s.name = omega arith in
    replicate-append-replicate {A = ℕ} (255 - length s.name) 9 0 ∙ ap (λ (n : ℕ). replicate {A = ℕ} n 0) sum

-- a slot's bytes in two parts
pub slot_parts : (s : Slot) → length s.name ≤ 255 → slot_bytes s ≡ spelled (head_of s) ++ (s.name ++ replicate (264 - length s.name) 0)
unfolding slot_bytes
slot_parts s short =
    append_assoc (spelled (head_of s)) (s.name ++ replicate (255 - length s.name) 0) (replicate 9 0)
    ∙ ap (λ (b : List ℕ). spelled (head_of s) ++ b) (append_assoc s.name (replicate (255 - length s.name) 0) (replicate 9 0) ∙ ap (λ (z : List ℕ). s.name ++ z) (zeros_of s short))

pub length-slot : (s : Slot) → length s.name ≤ 255 → length (slot_bytes s) ≡ 272
length-slot s short =
    let body : List ℕ = replicate (264 - length s.name) 0 in
    omega (arith, ap (length {A = ℕ}) (slot_parts s short), length-append (spelled (head_of s)) (s.name ++ body), length-append s.name body, length-head s, length-replicate {A = ℕ} (264 - length s.name) 0)

-- ---- what the bytes of a slot tell

pub record SlotParts (s : Slot) (bytes : List ℕ) : Type 0 where
  pub head : take 8 bytes ≡ spelled (head_of s)
  pub head_words : AreWords (head_of s)
  pub name : take (length s.name) (drop 8 bytes) ≡ s.name
  pub zeros : drop (length s.name) (drop 8 bytes) ≡ replicate (264 - length s.name) 0
  pub short : length s.name ≤ 255

head_fits : (s : Slot) → FitsSlot s → AreWords (head_of s)
head_fits s fits zero = fits.number
head_fits s fits (suc zero) = omega (arith, fits.is.short)
head_fits s fits (suc (suc i)) = omega arith

pub parts_of_slot : (s : Slot) (bytes : List ℕ) → SpellsSlot s bytes → SlotParts s bytes
parts_of_slot s bytes h =
    let zeros : List ℕ = replicate (264 - length s.name) 0 in
    let parts : bytes ≡ spelled (head_of s) ++ (s.name ++ zeros) = h.bytes_are ∙ slot_parts s h.fits.is.short in
    let back : drop 8 bytes ≡ s.name ++ zeros = ap (drop 8) parts ∙ drop_at (spelled (head_of s)) (s.name ++ zeros) 8 (length-head s) in
    record {
      head = ap (take 8) parts ∙ take_at (spelled (head_of s)) (s.name ++ zeros) 8 (length-head s);
      head_words = head_fits s h.fits;
      name = ap (take (length s.name)) back ∙ take_at s.name zeros (length s.name) refl;
      zeros = ap (drop (length s.name)) back ∙ drop_at s.name zeros (length s.name) refl;
      short = h.fits.is.short;
    }

-- the words that were read are those of the slot
pub record HeadIs (words : List ℕ) (s : Slot) : Type 0 where
  pub number_is : get_or words 0 0 ≡ s.number
  pub length_is : get_or words 1 0 ≡ length s.name

pub head_is : (bytes words : List ℕ) (s : Slot) → SpellsSlot s bytes → AreWords words → take 8 bytes ≡ spelled words → HeadIs words s
head_is bytes words s h fits are =
    let p = parts_of_slot s bytes h in
    let same : words ≡ head_of s = words_one words (head_of s) fits p.head_words (sym are ∙ p.head) in
    record { number_is = ap (λ (ws : List ℕ). get_or ws 0 0) same; length_is = ap (λ (ws : List ℕ). get_or ws 1 0) same }

-- what was read is spelled so
pub slot_found : (bytes words name zeros : List ℕ) (number n : ℕ) → IsBytes bytes → length bytes ≡ 272 → AreWords words → words ≡ number ∷ n ∷ [] → take 8 bytes ≡ spelled words
    → n ≤ 255 → (number ≡ 0 → n ≡ 0) → name ≡ take n (drop 8 bytes) → zeros ≡ drop n (drop 8 bytes) → zeros ≡ replicate (length zeros) 0 → SpellsSlot (slot_of number name) bytes
slot_found bytes words name zeros number n byte sized fits is are small empty name_is zeros_are none =
    let named : length name ≡ n = omega (arith, ap (length {A = ℕ}) name_is, length-take n (drop 8 bytes), length-drop 8 bytes) in
    let short : length name ≤ 255 = omega arith in
    let left : length zeros ≡ 264 - length name = omega (arith, ap (length {A = ℕ}) zeros_are, length-drop n (drop 8 bytes), length-drop 8 bytes) in
    let head : words ≡ head_of (slot_of number name) = is ∙ ap (λ (k : ℕ). number ∷ k ∷ []) (sym named) in
    let body : drop 8 bytes ≡ name ++ replicate (264 - length name) 0 =
    sym (take-append-drop n (drop 8 bytes)) ∙ ap (λ (f : List ℕ). f ++ drop n (drop 8 bytes)) (sym name_is)
    ∙ ap (λ (b : List ℕ). name ++ b) (sym zeros_are ∙ none ∙ ap (λ (k : ℕ). replicate k 0) left) in
    record {
      fits = record {
        is = record { short = short; empty = λ e. nil_from_length name (omega (arith, named, empty e)) };
        number = subst (λ (ws : List ℕ). get_or ws 0 0 < 2 ^ 32) is (fits 0);
        name = subst IsBytes (sym name_is) (IsBytes-take n (drop 8 bytes) (IsBytes-drop 8 bytes byte));
      };
      bytes_are =
          sym (take-append-drop 8 bytes) ∙ ap (λ (f : List ℕ). f ++ drop 8 bytes) (are ∙ ap spelled head) ∙ ap (λ (b : List ℕ). spelled (head_of (slot_of number name)) ++ b) body
          ∙ sym (slot_parts (slot_of number name) short);
    }

-- a slot that the bytes spell has these parts, and no other
pub slot_one : (s t : Slot) (bytes : List ℕ) → SpellsSlot s bytes → SpellsSlot t bytes → s ≡ t
slot_one s t bytes first second =
    let p = parts_of_slot s bytes first in
    let q = parts_of_slot t bytes second in
    let heads : head_of s ≡ head_of t = words_one (head_of s) (head_of t) p.head_words q.head_words (sym p.head ∙ q.head) in
    let number : s.number ≡ t.number = ap (λ (ws : List ℕ). get_or ws 0 0) heads in
    let lengths : length s.name ≡ length t.name = ap (λ (ws : List ℕ). get_or ws 1 0) heads in
    let name : s.name ≡ t.name = sym p.name ∙ ap (λ (n : ℕ). take n (drop 8 bytes)) lengths ∙ q.name in
    ap (λ (n : ℕ). slot_of n s.name) number ∙ ap (slot_of t.number) name

-- ---- what is written

pub slot_written : (s : Slot) (head name zeros : List ℕ) → length s.name ≤ 255 → head ≡ spelled (head_of s) → name ≡ s.name → zeros ≡ replicate (length zeros) 0
    → length zeros ≡ 264 - length s.name → head ++ (name ++ zeros) ≡ slot_bytes s
slot_written s head name zeros short first second third sized =
    ap (λ (h : List ℕ). h ++ (name ++ zeros)) first
    ∙ ap (λ (n : List ℕ). spelled (head_of s) ++ (n ++ zeros)) second
    ∙ ap (λ (z : List ℕ). spelled (head_of s) ++ (s.name ++ z)) (third ∙ ap (λ (k : ℕ). replicate k 0) sized)
    ∙ sym (slot_parts s short)

-- two words, one by one
pub two_cells : (words : List ℕ) → length words ≡ 2 → words ≡ get_or words 0 0 ∷ get_or words 1 0 ∷ []
two_cells [] two = absurd (omega arith)
two_cells (a ∷ []) two = absurd (omega arith)
two_cells (a ∷ b ∷ []) two = refl
two_cells (a ∷ b ∷ c ∷ words) two = absurd (omega arith)

-- what a slot's head may be
pub head_allowed : (words : List ℕ) (s : Slot) → IsSlot s → HeadIs words s → (get_or words 1 0 ≤ 255) × (get_or words 0 0 ≡ 0 → get_or words 1 0 ≡ 0)
head_allowed words s is head =
    (omega (arith, head.length_is, is.short), λ e. head.length_is ∙ ap (length {A = ℕ}) (is.empty (sym head.number_is ∙ e)))

-- the zeros behind the name of a slot
pub zeros_behind : (s : Slot) (bytes words zeros : List ℕ) → SpellsSlot s bytes → HeadIs words s → zeros ≡ drop (get_or words 1 0) (drop 8 bytes) → zeros ≡ replicate (length zeros) 0
zeros_behind s bytes words zeros h head are =
    let p = parts_of_slot s bytes h in
    let is : zeros ≡ replicate (264 - length s.name) 0 = are ∙ ap (λ (n : ℕ). drop n (drop 8 bytes)) head.length_is ∙ p.zeros in
    let sized : 264 - length s.name ≡ length zeros = sym (ap (length {A = ℕ}) is ∙ length-replicate {A = ℕ} (264 - length s.name) 0) in
    is ∙ ap (λ (n : ℕ). replicate n 0) sized
