-- The locks that have places of a span, found by bisection.
use Rattle.std.proofs.Common.{◌≡◌, ◌<◌, ◌≤◌, ◌+◌, ◌-◌, ℕ, zero, suc, List, [], ◌∷◌, ◌++◌, length, get_or, refl, ap, ◌∙◌, arith}
use Rattle.std.specs.List.{AllByRecursion}
use Rattle.std.proofs.lemmas.List.{length-append}
use Rattle.std.proofs.lemmas.Bool.{ltb-true, ltb-false, leb-true, leb-false}
use Rattle.std.proofs.lemmas.List.Elements.{recursion_from_All}
use Rattle.lock_table.specs.declared.lock.Lock.{Lock}
use Rattle.lock_table.specs.declared.span.Span.{Span}
use Rattle.lock_table.specs.Locked.{IsLine, IsEndedBy, IsBegunBy, Meets, IsBehind, IsWindow}

ended_tail : (l : Lock) (locks : List Lock) (place n : ℕ) → IsEndedBy (l ∷ locks) place (suc n) → IsEndedBy locks place n
ended_tail l locks place n by_ = (
  λ j d low below. by_.0 (suc j) d (omega arith) (omega (arith, below)),
  λ j d low below. by_.1 (suc j) d (omega (arith, low)) (omega (arith, below)),
)

begun_tail : (l : Lock) (locks : List Lock) (place n : ℕ) → IsBegunBy (l ∷ locks) place (suc n) → IsBegunBy locks place n
begun_tail l locks place n by_ = (
  λ j d low below. by_.0 (suc j) d (omega arith) (omega (arith, below)),
  λ j d low below. by_.1 (suc j) d (omega (arith, low)) (omega (arith, below)),
)

-- those that have places of it, and those behind it
record Halves (locks : List Lock) (s : Span) (to : ℕ) : Type 0 where
  pub middle : List Lock
  pub rest : List Lock
  pub is : locks ≡ middle ++ rest
  pub ends : to ≡ length middle
  pub meet : AllByRecursion (Meets s) middle
  pub behind : AllByRecursion (IsBehind s) rest

halves : (locks : List Lock) (s : Span) (to : ℕ) → to ≤ length locks → AllByRecursion (λ (l : Lock). s.at < l.span.end) locks → IsBegunBy locks s.end to → Halves locks s to
halves [] s zero low open_ begun = record { middle = []; rest = []; is = refl; ends = refl; meet = tt; behind = tt }
halves [] s (suc to) low open_ begun = absurd (omega (arith, low))
halves (l ∷ locks) s zero low open_ begun = record {
  middle = [];
  rest = l ∷ locks;
  is = refl;
  ends = refl;
  meet = tt;
  behind = recursion_from_All (IsBehind s) (l ∷ locks) (λ k d below. ltb-false (get_or (l ∷ locks) k d).span.at s.end (begun.1 k d (omega arith) below));
}
halves (l ∷ locks) s (suc to) low open_ begun =
    let later = halves locks s to (omega (arith, low)) open_.1 (begun_tail l locks s.end to begun) in
    let begins = begun.0 0 l (omega arith) (omega arith) in
    record {
      middle = l ∷ later.middle;
      rest = later.rest;
      is = ap (λ (xs : List Lock). l ∷ xs) later.is;
      ends = omega (arith, later.ends);
      meet = ((open_.0, ltb-true l.span.at s.end begins), later.meet);
      behind = later.behind;
    }

pub window_of : (locks : List Lock) (s : Span) (from to : ℕ) → s.at < s.end → from ≤ length locks → to ≤ length locks → IsLine locks
    → IsEndedBy locks s.at from → IsBegunBy locks s.end to → IsWindow locks s from to
window_of [] s zero zero some low high line ended begun =
    record { front = []; middle = []; rest = []; is = refl; begins = refl; ends = refl; before = tt; meet = tt; behind = tt }
window_of [] s zero (suc to) some low high line ended begun = absurd (omega (arith, high))
window_of [] s (suc from) to some low high line ended begun = absurd (omega (arith, low))
window_of (l ∷ locks) s zero to some low high line ended begun =
    let two = halves (l ∷ locks) s to high
    (recursion_from_All (λ (o : Lock). s.at < o.span.end) (l ∷ locks) (λ k d below. leb-false (get_or (l ∷ locks) k d).span.end s.at (ended.1 k d (omega arith) below)))
    begun in
    record {
      front = [];
      middle = two.middle;
      rest = two.rest;
      is = two.is;
      begins = refl;
      ends = omega (arith, two.ends);
      before = tt;
      meet = two.meet;
      behind = two.behind;
    }
window_of (l ∷ locks) s (suc from) zero some low high line ended begun =
    let one = ended.0 0 l (omega arith) (omega arith) in
    let two = begun.1 0 l (omega arith) (omega arith) in
    absurd (omega (arith, some, line.0, leb-true l.span.end s.at one, ltb-false l.span.at s.end two))
window_of (l ∷ locks) s (suc from) (suc to) some low high line ended begun =
    let later = window_of locks s from to some (omega (arith, low)) (omega (arith, high)) line.2 (ended_tail l locks s.at from ended) (begun_tail l locks s.end to begun) in
    let first = ended.0 0 l (omega arith) (omega arith) in
    record {
      front = l ∷ later.front;
      middle = later.middle;
      rest = later.rest;
      is = ap (λ (xs : List Lock). l ∷ xs) later.is;
      begins = omega (arith, later.begins);
      ends = omega (arith, later.ends);
      before = (leb-true l.span.end s.at first, later.before);
      meet = later.meet;
      behind = later.behind;
    }

pub window_fits : (locks : List Lock) (s : Span) (from to : ℕ) → (w : IsWindow locks s from to) → (from ≤ to) × (to ≤ length locks) × (to - from ≡ length w.middle)
window_fits locks s from to w =
    let all : length locks ≡ length w.front + (length w.middle + length w.rest) =
    ap length w.is ∙ length-append w.front (w.middle ++ w.rest) ∙ ap (λ (n : ℕ). length w.front + n) (length-append w.middle w.rest) in
    (omega (arith, w.begins, w.ends), omega (arith, w.ends, all), omega (arith, w.begins, w.ends))
