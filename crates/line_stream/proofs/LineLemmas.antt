-- Lines in bytes, and the pieces in which they are read.
use Rattle.std.proofs.Common.{◌≡◌, ℕ, suc, ◌+◌, ◌<◌, ◌≤◌, Bool, true, false, eqb, List, [], ◌∷◌, ◌++◌, length, get_or, take, drop, Some, None, Ok, refl, sym, ap, subst, ◌∙◌, arith}
use Rattle.std.proofs.lemmas.Bool.{eqb-true}
use Rattle.std.proofs.lemmas.List.{append-nil, take-append-drop, length-append, length-take, get_or-take, drop_more, drop-drop, take_all, drop_all}
use Rattle.memchr.specs.Find.{IsFirstByte, is_byte}
use Rattle.line_stream.specs.Lines.{IsOneLine}
use Rattle.line_stream.specs.Reading.{Reading}
use Rattle.line_stream.specs.declared.found.Scanned.TheVariants as scanned
use Rattle.line_stream.specs.LineReader.{Scans, Keeps}

-- bytes of which none ends a line are one line
pub one_line : (xs : List ℕ) → ((i : ℕ) → i < length xs → eqb (get_or xs i 0) 10 ≡ false) → IsOneLine xs
one_line [] none = tt
one_line (x ∷ xs) none = (none 0 (omega arith), one_line xs (λ i below. none (suc i) (omega arith)))

-- two parts of a line
pub IsOneLine-append : (xs ys : List ℕ) → IsOneLine xs → IsOneLine ys → IsOneLine (xs ++ ys)
IsOneLine-append [] ys first second = second
IsOneLine-append (x ∷ xs) ys first second = (first.0, IsOneLine-append xs ys first.1 second)

-- the front of a line
pub IsOneLine-front : (xs ys : List ℕ) → IsOneLine (xs ++ ys) → IsOneLine xs
IsOneLine-front [] ys whole = tt
IsOneLine-front (x ∷ xs) ys whole = (whole.0, IsOneLine-front xs ys whole.1)

-- a test that did not pass
not_passed : (b : Bool) → (b ≡ true → ⊥) → b ≡ false
not_passed true h = absurd (h refl)
not_passed false h = refl

-- bytes in which a search found no line's end
pub none_found : (hay : List ℕ) → IsFirstByte (is_byte 10) hay None → IsOneLine hay
none_found hay none = one_line hay (λ i below. not_passed (eqb (get_or hay i 0) 10) (none i (omega arith) below))

-- what stands around a line's end that a search found
pub record IsFound (hay : List ℕ) (at : ℕ) : Type 0 where
  pub below : at < length hay
  pub unended : IsOneLine (take at hay)
  pub parts : hay ≡ take at hay ++ 10 ∷ drop (at + 1) hay

pub one_found : (hay : List ℕ) (at : ℕ) → IsFirstByte (is_byte 10) hay (Some at) → IsFound hay at
one_found hay at found =
    let below : at < length hay = found.0.high in
    let ends : get_or hay at 0 ≡ 10 = eqb-true (get_or hay at 0) 10 found.1 in
    record {
      below = below;
      unended = one_line (take at hay) (λ i inside.
          let near : i < at = omega (arith, length-take at hay) in
          ap (λ (b : ℕ). eqb b 10) (get_or-take at hay i 0 near) ∙ not_passed (eqb (get_or hay i 0) 10) (found.0.before i (omega arith) near));
      parts = sym (take-append-drop at hay) ∙ ap (λ (r : List ℕ). take at hay ++ r) (drop_more hay at 0 below ∙ ap (λ (b : ℕ). b ∷ drop (at + 1) hay) ends);
    }

-- ---- what looking through a piece leaves

-- what was kept, where it was
pub kept : (old new : Reading) (count : ℕ) (b : Bool) → b ≡ true → Keeps old new count (Ok b)
    → (new.line ≡ old.line ++ take count old.pending) × (new.pending ≡ drop count old.pending) × (length new.line ≤ 140000)
kept old new count true is h = h
kept old new count false is h = absurd cc

-- and where there was no room
pub not_kept : (old new : Reading) (count : ℕ) (b : Bool) → b ≡ false → Keeps old new count (Ok b) → 140000 < length old.line + count
not_kept old new count true is h = absurd cc
not_kept old new count false is h = h

-- the line ends in the piece, and has room
pub scanned_line : (old kept_ new : Reading) (pending : List ℕ) (at : ℕ) → pending ≡ old.pending → IsFirstByte (is_byte 10) pending (Some at)
    → (kept_.line ≡ old.line ++ take at old.pending) × (kept_.pending ≡ drop at old.pending) × (length kept_.line ≤ 140000)
    → new ≡ record kept_ { pending = drop 1 kept_.pending } → Scans old new (Ok scanned.Line)
scanned_line old kept_ new pending at same found k skipped =
    let f = subst (λ (p : List ℕ). IsFound p at) same (one_found pending at found) in
    let behind : new.pending ≡ drop (at + 1) old.pending = ap (λ (r : Reading). r.pending) skipped ∙ ap (drop 1) k.1 ∙ drop-drop 1 at old.pending in
    let line : new.line ≡ old.line ++ take at old.pending = ap (λ (r : Reading). r.line) skipped ∙ k.0 in
    let fits : length new.line ≤ 140000 = omega (arith, ap (λ (r : Reading). length r.line) skipped, k.2) in
    let short : length (take at old.pending) ≤ 140000 = omega (arith, ap (length {A = ℕ}) line, length-append old.line (take at old.pending), fits) in (
      take at old.pending,
      record { parts = f.parts ∙ ap (λ (r : List ℕ). take at old.pending ++ 10 ∷ r) (sym behind); unended = f.unended; fits = short },
      line,
      fits,
    )

-- the line ends in the piece, and has no room
pub scanned_long : (old : Reading) (pending : List ℕ) (at : ℕ) → pending ≡ old.pending → IsFirstByte (is_byte 10) pending (Some at) → 140000 < length old.line + at
    → (front : List ℕ) × (rest : List ℕ) × (old.pending ≡ front ++ rest) × IsOneLine front × (140000 < length old.line + length front)
scanned_long old pending at same found long =
    let f = subst (λ (p : List ℕ). IsFound p at) same (one_found pending at found) in
    (take at old.pending, drop at old.pending, sym (take-append-drop at old.pending), f.unended, omega (arith, length-take at old.pending, f.below, long))

-- the line goes on behind the piece, and has room
pub scanned_more : (old new : Reading) (pending : List ℕ) (count : ℕ) → pending ≡ old.pending → count ≡ length pending → IsFirstByte (is_byte 10) pending None
    → (new.line ≡ old.line ++ take count old.pending) × (new.pending ≡ drop count old.pending) × (length new.line ≤ 140000)
    → Scans old new (Ok scanned.More)
scanned_more old new pending count same size none k =
    let whole : length old.pending ≤ count = omega (arith, size, ap (length {A = ℕ}) same) in
    let all : take count old.pending ≡ old.pending = take_all count old.pending whole in
    let line : new.line ≡ old.line ++ old.pending = k.0 ∙ ap (λ (r : List ℕ). old.line ++ r) all in (
      record {
        parts = refl;
        used = k.1 ∙ drop_all count old.pending whole;
        unended = subst IsOneLine same (none_found pending none);
        fits = omega (arith, ap (length {A = ℕ}) line, length-append old.line old.pending, k.2);
      },
      line,
      k.2,
    )

-- the line goes on behind the piece, and has no room
pub scanned_too_long : (old : Reading) (pending : List ℕ) (count : ℕ) → pending ≡ old.pending → count ≡ length pending → IsFirstByte (is_byte 10) pending None
    → 140000 < length old.line + count
    → (front : List ℕ) × (rest : List ℕ) × (old.pending ≡ front ++ rest) × IsOneLine front × (140000 < length old.line + length front)
scanned_too_long old pending count same size none long =
    (old.pending, [], sym (append-nil old.pending), subst IsOneLine same (none_found pending none), omega (arith, size, ap (length {A = ℕ}) same, long))
