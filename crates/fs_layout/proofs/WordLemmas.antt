-- Words and the bytes that spell them.
use Rattle.std.proofs.Common.{◌≡◌, ℕ, zero, suc, ◌+◌, ◌*◌, ◌^◌, ◌<◌, ◌≤◌, List, [], ◌∷◌, ◌++◌, length, get_or, take, drop, refl, sym, ap, ◌∙◌, append_assoc, arith, inl, inr, lit<}
use Rattle.std.specs.Prelude.{slice_set, replicate}
use Rattle.std.specs.Int.{w32, to_be_bytes, from_be_bytes}
use Rattle.std.proofs.lemmas.List.{take_at, drop_at, take-append-drop, take-take, drop-take, take_more, take_more_set, length-take, length-append, length-replicate, get_or-drop, get_or-replicate, get_or_past}
use Rattle.std.proofs.lemmas.Bool.{cases_lt}
use Rattle.std.proofs.lemmas.Slice.{take-put_mid}
use Rattle.std.proofs.lemmas.Nat.{be_bytes_4, from_be_bytes-to_be_bytes_4}
use borrow.Rule.Slice.PartMut.{put_mid}
use Rattle.sfs_base.specs.Reading.{IsBytes}
use Rattle.sfs_base.proofs.ReadingLemmas.{IsBytes-take, IsBytes-drop}
use Rattle.sfs_xdr.specs.Items as items
use Rattle.fs_layout.specs.Words.{AreWords, spelled}

-- the words behind the first
pub AreWords-tail : (w : ℕ) (ws : List ℕ) → AreWords (w ∷ ws) → AreWords ws
AreWords-tail w ws fits i = fits (suc i)

-- more elements, cut where fewer end
pub take_split : (n m : ℕ) (xs : List ℕ) → take (n + m) xs ≡ take n xs ++ take m (drop n xs)
take_split n m xs =
    sym (take-append-drop n (take (n + m) xs))
    ∙ ap (λ (t : List ℕ). t ++ drop n (take (n + m) xs)) (take-take n (n + m) xs (omega arith))
    ∙ ap (λ (d : List ℕ). take n xs ++ d) (drop-take n m xs)

-- the first four elements, one by one
quad : (xs : List ℕ) → 4 ≤ length xs → take 4 xs ≡ get_or xs 0 0 ∷ get_or xs 1 0 ∷ get_or xs 2 0 ∷ get_or xs 3 0 ∷ []
quad [] long = absurd (omega arith)
quad (a ∷ []) long = absurd (omega arith)
quad (a ∷ b ∷ []) long = absurd (omega arith)
quad (a ∷ b ∷ c ∷ []) long = absurd (omega arith)
quad (a ∷ b ∷ c ∷ d ∷ xs) long = refl

pub spelled-append : (xs ys : List ℕ) → spelled (xs ++ ys) ≡ spelled xs ++ spelled ys
unfolding spelled
spelled-append [] ys = refl
spelled-append (x ∷ xs) ys = ap (λ (r : List ℕ). to_be_bytes w32 x ++ r) (spelled-append xs ys) ∙ sym (append_assoc (to_be_bytes w32 x) (spelled xs) (spelled ys))

pub spelled-one : (w : ℕ) → spelled (w ∷ []) ≡ to_be_bytes w32 w
unfolding spelled
spelled-one w = refl

pub length-spelled : (ws : List ℕ) → length (spelled ws) ≡ 4 * length ws
unfolding spelled
length-spelled [] = refl
length-spelled (w ∷ ws) = length-append (to_be_bytes w32 w) (spelled ws) ∙ omega (arith, length-spelled ws)

pub spelled_none : spelled [] ≡ []
unfolding spelled
spelled_none = refl

-- one word more is read
pub read_step : (bytes words : List ℕ) (i w : ℕ) → IsBytes bytes → i < length words → 4 * i + 4 ≤ length bytes
    → w ≡ from_be_bytes w32 (get_or bytes (4 * i) 0 ∷ get_or bytes (4 * i + 1) 0 ∷ get_or bytes (4 * i + 2) 0 ∷ get_or bytes (4 * i + 3) 0 ∷ [])
    → spelled (take i words) ≡ take (4 * i) bytes → spelled (take (i + 1) (slice_set words i w)) ≡ take (4 * (i + 1)) bytes
read_step bytes words i w fits below long is so_far =
    let front : List ℕ = take 4 (drop (4 * i) bytes) in
    let long_rest : 4 ≤ length (drop (4 * i) bytes) = omega (arith, length-append (take (4 * i) bytes) (drop (4 * i) bytes), ap (length {A = ℕ}) (take-append-drop (4 * i) bytes), length-take (4 * i) bytes) in
    let cells : take 4 (drop (4 * i) bytes) ≡ get_or bytes (4 * i) 0 ∷ get_or bytes (4 * i + 1) 0 ∷ get_or bytes (4 * i + 2) 0 ∷ get_or bytes (4 * i + 3) 0 ∷ [] =
    quad (drop (4 * i) bytes) long_rest
    ∙ ap (λ (x : ℕ). x ∷ get_or (drop (4 * i) bytes) 1 0 ∷ get_or (drop (4 * i) bytes) 2 0 ∷ get_or (drop (4 * i) bytes) 3 0 ∷ []) (get_or-drop (4 * i) bytes 0 0 ∙ ap (λ (k : ℕ). get_or bytes k 0) (omega arith))
    ∙ ap (λ (x : ℕ). get_or bytes (4 * i) 0 ∷ x ∷ get_or (drop (4 * i) bytes) 2 0 ∷ get_or (drop (4 * i) bytes) 3 0 ∷ []) (get_or-drop (4 * i) bytes 1 0)
    ∙ ap (λ (x : ℕ). get_or bytes (4 * i) 0 ∷ get_or bytes (4 * i + 1) 0 ∷ x ∷ get_or (drop (4 * i) bytes) 3 0 ∷ []) (get_or-drop (4 * i) bytes 2 0)
    ∙ ap (λ (x : ℕ). get_or bytes (4 * i) 0 ∷ get_or bytes (4 * i + 1) 0 ∷ get_or bytes (4 * i + 2) 0 ∷ x ∷ []) (get_or-drop (4 * i) bytes 3 0) in
    let word_is : to_be_bytes w32 w ≡ front =
    be_bytes_4 front w (ap (length {A = ℕ}) cells) (IsBytes-take 4 (drop (4 * i) bytes) (IsBytes-drop (4 * i) bytes fits)) (is ∙ ap (from_be_bytes w32) (sym cells)) in
    ap spelled (take_more_set words i w below)
    ∙ spelled-append (take i words) (w ∷ [])
    ∙ ap (λ (r : List ℕ). spelled (take i words) ++ r) (spelled-one w ∙ word_is)
    ∙ ap (λ (r : List ℕ). r ++ front) so_far
    ∙ sym (take_split (4 * i) 4 bytes)
    ∙ ap (λ (k : ℕ). take k bytes) (omega arith)

-- one word more is written
pub write_step : (words into part : List ℕ) (i w n : ℕ) → i < length words → length into ≡ 4 * length words → n ≡ 4 → w ≡ get_or words i 0
    → part ≡ to_be_bytes w32 w → take (4 * i) into ≡ spelled (take i words) → take (4 * (i + 1)) (put_mid (4 * i) n into part) ≡ spelled (take (i + 1) words)
write_step words into part i w n below sized four is written so_far =
    ap (λ (k : ℕ). take k (put_mid (4 * i) n into part)) (omega arith)
    ∙ take-put_mid (4 * i) n into part (4 * i + 4) (omega (arith, ap (length {A = ℕ}) written)) (omega arith)
    ∙ ap (λ (r : List ℕ). r ++ part) so_far
    ∙ ap (λ (r : List ℕ). spelled (take i words) ++ r) (written ∙ sym (spelled-one w))
    ∙ sym (spelled-append (take i words) (w ∷ []))
    ∙ ap spelled (ap (λ (x : ℕ). take i words ++ x ∷ []) is ∙ sym (take_more words i 0 below))

-- words that spell the same bytes are the same
pub words_one : (xs ys : List ℕ) → AreWords xs → AreWords ys → spelled xs ≡ spelled ys → xs ≡ ys
unfolding spelled
words_one [] [] first second e = refl
words_one [] (y ∷ ys) first second e = absurd cc
words_one (x ∷ xs) [] first second e = absurd cc
words_one (x ∷ xs) (y ∷ ys) first second e =
    let heads : to_be_bytes w32 x ≡ to_be_bytes w32 y =
    sym (take_at (to_be_bytes w32 x) (spelled xs) 4 refl) ∙ ap (take 4) e ∙ take_at (to_be_bytes w32 y) (spelled ys) 4 refl in
    let tails : spelled xs ≡ spelled ys =
    sym (drop_at (to_be_bytes w32 x) (spelled xs) 4 refl) ∙ ap (drop 4) e ∙ drop_at (to_be_bytes w32 y) (spelled ys) 4 refl in
    let head : x ≡ y = sym (from_be_bytes-to_be_bytes_4 x (first 0)) ∙ ap (from_be_bytes w32) heads ∙ from_be_bytes-to_be_bytes_4 y (second 0) in
    ap (λ (w : ℕ). w ∷ xs) head ∙ ap (λ (ws : List ℕ). y ∷ ws) (words_one xs ys (AreWords-tail x xs first) (AreWords-tail y ys second) tails)

pub zeros_are_words : (n : ℕ) → AreWords (replicate n 0)
zeros_are_words n i =
    elim (cases_lt i n) [
      | inl below ↦ rw (get_or-replicate {A = ℕ} n i 0 0 below) (omega arith)
      | inr past ↦ rw (get_or_past {X = ℕ} (replicate n 0) i 0 (omega (arith, length-replicate {A = ℕ} n 0))) (omega arith)
    ]

pub AreWords-set : (words : List ℕ) (i w : ℕ) → AreWords words → w < 2 ^ 32 → AreWords (slice_set words i w)
AreWords-set [] i w fits below k = fits k
AreWords-set (x ∷ words) zero w fits below zero = below
AreWords-set (x ∷ words) zero w fits below (suc k) = fits (suc k)
AreWords-set (x ∷ words) (suc i) w fits below zero = fits 0
AreWords-set (x ∷ words) (suc i) w fits below (suc k) = AreWords-set words i w (AreWords-tail x words fits) below k

-- words are spelled as the numbers of XDR
spelled_words : (ns : List ℕ) → spelled ns ≡ items.words ns
unfolding spelled
spelled_words [] = refl
spelled_words (n ∷ ns) = ap (λ (r : List ℕ). to_be_bytes w32 n ++ r) (spelled_words ns)

words_all : (ns : List ℕ) → AreWords ns → items.AreWords ns
words_all [] fits = tt
words_all (n ∷ ns) fits = (fits 0, words_all ns (AreWords-tail n ns fits))

all_words : (ns : List ℕ) → items.AreWords ns → AreWords ns
all_words [] fits i = lit< tt
all_words (n ∷ ns) fits zero = fits.0
all_words (n ∷ ns) fits (suc i) = all_words ns fits.1 i

pub words_items : (ns : List ℕ) → (spelled ns ≡ items.words ns) × (AreWords ns → items.AreWords ns) × (items.AreWords ns → AreWords ns)
words_items ns = (spelled_words ns, words_all ns, all_words ns)
