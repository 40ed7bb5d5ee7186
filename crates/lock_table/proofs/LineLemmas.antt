-- Locks that lie one behind another.
use Rattle.std.proofs.Common.{◌<◌, ◌≤◌, ℕ, zero, suc, nat_lt, leb, List, [], ◌∷◌, ◌++◌, get_or, arith}
use Rattle.std.specs.Prelude.{⊤}
use Rattle.std.specs.List.{AllByRecursion}
use Rattle.std.specs.List.Sorted.{IsPartitionedBy}
use Rattle.std.proofs.lemmas.Bool.{lt-ltb, le-leb, ltb-true, leb-true}
use Rattle.std.proofs.lemmas.List.Elements.{All-from_recursion}
use Rattle.mini_tx.specs.declared.tx_id.TxId.{TxId}
use Rattle.lock_table.specs.declared.lock.Lock.{Lock}
use Rattle.lock_table.specs.declared.span.Span.{Span}
use Rattle.lock_table.specs.Spans.{joined, hull}
use Rattle.lock_table.specs.Locked.{IsLine, IsEnded, IsBehind}

abbrev pub Before : Lock → Lock → Type 0
Before l o = l.span.end ≤ o.span.at

-- each of the first comes before each of the others
abbrev pub AreBefore : List Lock → List Lock → Type 0
AreBefore [] ys = ⊤
AreBefore (x ∷ xs) ys = AllByRecursion (Before x) ys × AreBefore xs ys

-- ---- parts of a line

each_left : (P : Lock → Type 0) (xs ys : List Lock) → AllByRecursion P (xs ++ ys) → AllByRecursion P xs
each_left P [] ys all = tt
each_left P (x ∷ xs) ys all = (all.0, each_left P xs ys all.1)

each_right : (P : Lock → Type 0) (xs ys : List Lock) → AllByRecursion P (xs ++ ys) → AllByRecursion P ys
each_right P [] ys all = all
each_right P (x ∷ xs) ys all = each_right P xs ys all.1

each_both : (P : Lock → Type 0) (xs ys : List Lock) → AllByRecursion P xs → AllByRecursion P ys → AllByRecursion P (xs ++ ys)
each_both P [] ys one two = two
each_both P (x ∷ xs) ys one two = (one.0, each_both P xs ys one.1 two)

pub line_left : (xs ys : List Lock) → IsLine (xs ++ ys) → IsLine xs
line_left [] ys line = tt
line_left (x ∷ xs) ys line = (line.0, each_left (Before x) xs ys line.1, line_left xs ys line.2)

pub line_right : (xs ys : List Lock) → IsLine (xs ++ ys) → IsLine ys
line_right [] ys line = line
line_right (x ∷ xs) ys line = line_right xs ys line.2

line_across : (xs ys : List Lock) → IsLine (xs ++ ys) → AreBefore xs ys
line_across [] ys line = tt
line_across (x ∷ xs) ys line = (each_right (Before x) xs ys line.1, line_across xs ys line.2)

line_both : (xs ys : List Lock) → IsLine xs → IsLine ys → AreBefore xs ys → IsLine (xs ++ ys)
line_both [] ys one two across = two
line_both (x ∷ xs) ys one two across = (one.0, each_both (Before x) xs ys one.1 across.0, line_both xs ys one.2 two across.1)

across_right : (xs ys zs : List Lock) → AreBefore xs (ys ++ zs) → AreBefore xs zs
across_right [] ys zs across = tt
across_right (x ∷ xs) ys zs across = (each_right (Before x) ys zs across.0, across_right xs ys zs across.1)

-- the middle is taken out
pub line_without : (front middle rest : List Lock) → IsLine (front ++ (middle ++ rest)) → IsLine (front ++ rest)
line_without front middle rest line =
    line_both front rest (line_left front (middle ++ rest) line) (line_right middle rest (line_right front (middle ++ rest) line))
    (across_right front middle rest (line_across front (middle ++ rest) line))

-- ---- a span that is put in its place

hull_low : (b : ℕ) (s : Span) (middle : List Lock) → b ≤ s.at → AllByRecursion (λ (l : Lock). b ≤ l.span.at) middle → b ≤ (hull s middle).at
hull_low b s [] low all = low
hull_low b s (l ∷ middle) low all = hull_low b (joined s l.span) middle (omega (arith, low, all.0)) all.1

hull_high : (b : ℕ) (s : Span) (middle : List Lock) → s.end ≤ b → AllByRecursion (λ (l : Lock). l.span.end ≤ b) middle → (hull s middle).end ≤ b
hull_high b s [] high all = high
hull_high b s (l ∷ middle) high all = hull_high b (joined s l.span) middle (omega (arith, high, all.0)) all.1

hull_around : (s : Span) (middle : List Lock) → ((hull s middle).at ≤ s.at) × (s.end ≤ (hull s middle).end)
hull_around s [] = (omega arith, omega arith)
hull_around s (l ∷ middle) =
    let wide = hull_around (joined s l.span) middle in
    (omega (arith, wide.0), omega (arith, wide.1))

ends_before : (y : Lock) (middle rest : List Lock) → AreBefore middle (y ∷ rest) → AllByRecursion (λ (l : Lock). l.span.end ≤ y.span.at) middle
ends_before y [] rest across = tt
ends_before y (l ∷ middle) rest across = (across.0.0, ends_before y middle rest across.1)

across_tail : (y : Lock) (middle rest : List Lock) → AreBefore middle (y ∷ rest) → AreBefore middle rest
across_tail y [] rest across = tt
across_tail y (l ∷ middle) rest across = (across.0.1, across_tail y middle rest across.1)

module _ (s : Span) (holder : TxId) where
  abbrev pub whole : List Lock → Lock
  whole middle = record { holder = holder; span = hull s middle }

  hull_before : (middle rest : List Lock) → AreBefore middle rest → AllByRecursion (IsBehind s) rest → AllByRecursion (Before (whole middle)) rest
  hull_before middle [] across behind = tt
  hull_before middle (y ∷ rest) across behind = (
    hull_high y.span.at s middle behind.0 (ends_before y middle rest across),
    hull_before middle rest (across_tail y middle rest across) behind.1,
  )

  before_hull : (front middle rest : List Lock) → AreBefore front (middle ++ rest) → AllByRecursion (IsEnded s) front → AreBefore front (whole middle ∷ rest)
  before_hull [] middle rest across before = tt
  before_hull (l ∷ front) middle rest across before = (
    (hull_low l.span.end s middle before.0 (each_left (Before l) middle rest across.0), each_right (Before l) middle rest across.0),
    before_hull front middle rest across.1 before.1,
  )

  pub line_with : (front middle rest : List Lock) → s.at < s.end → IsLine (front ++ (middle ++ rest)) → AllByRecursion (IsEnded s) front → AllByRecursion (IsBehind s) rest
      → IsLine (front ++ whole middle ∷ rest)
  line_with front middle rest some line before behind =
      let back = line_right front (middle ++ rest) line in
      let around = hull_around s middle in
      line_both front (whole middle ∷ rest) (line_left front (middle ++ rest) line)
      (omega (arith, some, around.0, around.1), hull_before middle rest (line_across middle rest back) behind, line_right middle rest back)
      (before_hull front middle rest (line_across front (middle ++ rest) line) before)

-- ---- bisection

pub all_some : (locks : List Lock) → IsLine locks → AllByRecursion (λ (l : Lock). l.span.at < l.span.end) locks
all_some [] line = tt
all_some (l ∷ locks) line = (line.0, all_some locks line.2)

pub ends_part : (locks : List Lock) (place : ℕ) → IsLine locks → IsPartitionedBy (λ (l : Lock). leb l.span.end place) locks
ends_part [] place line i j d low below h = absurd (omega (arith, below))
ends_part (l ∷ locks) place line zero zero d low below h = h
ends_part (l ∷ locks) place line zero (suc j) d low below h =
    let o = get_or locks j d in
    let later = All-from_recursion (Before l) locks line.1 j d (omega (arith, below)) in
    let some = All-from_recursion (λ (x : Lock). x.span.at < x.span.end) locks (all_some locks line.2) j d (omega (arith, below)) in
    le-leb l.span.end place (omega (arith, later, some, leb-true o.span.end place h))
ends_part (l ∷ locks) place line (suc i) zero d low below h = absurd (omega (arith, low))
ends_part (l ∷ locks) place line (suc i) (suc j) d low below h = ends_part locks place line.2 i j d (omega (arith, low)) (omega (arith, below)) h

pub begins_part : (locks : List Lock) (place : ℕ) → IsLine locks → IsPartitionedBy (λ (l : Lock). nat_lt l.span.at place) locks
begins_part [] place line i j d low below h = absurd (omega (arith, below))
begins_part (l ∷ locks) place line zero zero d low below h = h
begins_part (l ∷ locks) place line zero (suc j) d low below h =
    let o = get_or locks j d in
    let later = All-from_recursion (Before l) locks line.1 j d (omega (arith, below)) in
    lt-ltb l.span.at place (omega (arith, later, line.0, ltb-true o.span.at place h))
begins_part (l ∷ locks) place line (suc i) zero d low below h = absurd (omega (arith, low))
begins_part (l ∷ locks) place line (suc i) (suc j) d low below h = begins_part locks place line.2 i j d (omega (arith, low)) (omega (arith, below)) h
