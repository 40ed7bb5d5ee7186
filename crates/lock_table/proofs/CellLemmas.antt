-- Which identifier locks a place, before and after a span is taken out or put in.
use Rattle.std.proofs.Common.{◌≡◌, ◌<◌, ◌≤◌, ℕ, nat_lt, leb, Bool, true, false, ◌&&◌, ◌||◌, List, [], ◌∷◌, ◌++◌, inl, inr, refl, sym, ap, subst, ◌∙◌, arith}
use Rattle.std.specs.Prelude.{max}
use Rattle.std.specs.List.{AllByRecursion}
use Rattle.std.proofs.lemmas.Bool.{lt-ltb, le-leb, ltb-true, leb-true, ltb-false, leb-false, and_parts, and_from, and_cases, and_left, and_right, or_from, or_left, or_right, false_from_ne_true}
use Rattle.std.proofs.lemmas.List.Folds.{list_any-append}
use Rattle.mini_tx.specs.declared.tx_id.TxId.{TxId}
use Rattle.lock_table.specs.declared.lock.Lock.{Lock}
use Rattle.lock_table.specs.declared.span.Span.{Span}
use Rattle.lock_table.specs.Order.{is_same}
use Rattle.lock_table.specs.Spans.{has, joined, hull}
use Rattle.lock_table.specs.Locked.{is_locked, IsSpanFreeFor, IsSpanLocked, IsLine, IsEnded, Meets, IsBehind}
use Rattle.lock_table.proofs.OrderLemmas.{same_self}
use Rattle.lock_table.proofs.LineLemmas.{all_some, line_left, line_right, whole}

pub same_if : (a b : Bool) → (a ≡ true → b ≡ true) → (b ≡ true → a ≡ true) → a ≡ b
same_if true b forth back = sym (forth refl)
same_if false true forth back = back refl
same_if false false forth back = refl

-- ---- places of a span

pub has_parts : (place : ℕ) (s : Span) → has place s ≡ true → (s.at ≤ place) × (place < s.end)
has_parts place s e =
    let parts = and_parts (leb s.at place) (nat_lt place s.end) e in
    (leb-true s.at place parts.0, ltb-true place s.end parts.1)

pub has_from : (place : ℕ) (s : Span) → s.at ≤ place → place < s.end → has place s ≡ true
has_from place s low high = and_from (leb s.at place) (nat_lt place s.end) (le-leb s.at place low) (lt-ltb place s.end high)

has_joined : (place : ℕ) (a b : Span) → a.at < b.end → b.at < a.end → has place (joined a b) ≡ (has place b || has place a)
has_joined place a b one two = go (has place b) refl
  where
    go : (x : Bool) → has place b ≡ x → has place (joined a b) ≡ (x || has place a)
    go true is =
        let own = has_parts place b is in
        has_from place (joined a b) (omega (arith, own.0)) (omega (arith, own.1))
    go false is = same_if (has place (joined a b)) (has place a)
        (λ h. let both = has_parts place (joined a b) h in
        elim (and_cases (leb b.at place) (nat_lt place b.end) is) [
          | inl low ↦
              let below = leb-false b.at place low in
              has_from place a (omega (arith, both.0, below)) (omega (arith, both.0, both.1, below, two))
          | inr high ↦
              let above = ltb-false place b.end high in
              has_from place a (omega (arith, both.0, both.1, above, one)) (omega (arith, both.0, both.1, above, one))
        ])
        (λ h. let own = has_parts place a h in has_from place (joined a b) (omega (arith, own.0)) (omega (arith, own.1)))

-- ---- the locks before and behind have none

pub none_before : (s : Span) (front : List Lock) (place : ℕ) (id : TxId) → AllByRecursion (IsEnded s) front → has place s ≡ true → is_locked front place id ≡ false
none_before s [] place id before own = refl
none_before s (l ∷ front) place id before own =
    or_from (is_same l.holder id && has place l.span) (is_locked front place id)
    (and_right (is_same l.holder id) (has place l.span) (false_from_ne_true (has place l.span) (λ h.
    let mine = has_parts place s own in
    let theirs = has_parts place l.span h in
    omega (arith, before.0, mine.0, theirs.1))))
    (none_before s front place id before.1 own)

pub none_behind : (s : Span) (rest : List Lock) (place : ℕ) (id : TxId) → AllByRecursion (IsBehind s) rest → has place s ≡ true → is_locked rest place id ≡ false
none_behind s [] place id behind own = refl
none_behind s (l ∷ rest) place id behind own =
    or_from (is_same l.holder id && has place l.span) (is_locked rest place id)
    (and_right (is_same l.holder id) (has place l.span) (false_from_ne_true (has place l.span) (λ h.
    let mine = has_parts place s own in
    let theirs = has_parts place l.span h in
    omega (arith, behind.0, mine.1, theirs.0))))
    (none_behind s rest place id behind.1 own)

-- ---- three parts

pub in_parts : (front middle rest : List Lock) (place : ℕ) (id : TxId)
    → is_locked (front ++ (middle ++ rest)) place id ≡ (is_locked front place id || (is_locked middle place id || is_locked rest place id))
in_parts front middle rest place id =
    list_any-append (λ (l : Lock). is_same l.holder id && has place l.span) front (middle ++ rest)
    ∙ ap (λ (b : Bool). is_locked front place id || b) (list_any-append (λ (l : Lock). is_same l.holder id && has place l.span) middle rest)

pub in_both : (front rest : List Lock) (place : ℕ) (id : TxId) → is_locked (front ++ rest) place id ≡ (is_locked front place id || is_locked rest place id)
in_both front rest place id = list_any-append (λ (l : Lock). is_same l.holder id && has place l.span) front rest

-- a lock that has places of the span has one that both have
pub shared : (s : Span) (l : Lock) → s.at < s.end → l.span.at < l.span.end → Meets s l → (place : ℕ) × (has place s ≡ true) × (has place l.span ≡ true)
shared s l some open_ meet = (
  max s.at l.span.at,
  has_from (max s.at l.span.at) s (omega arith) (omega (arith, some, meet.1)),
  has_from (max s.at l.span.at) l.span (omega arith) (omega (arith, open_, meet.0)),
)

-- ---- the locks of the middle are the holder's

abbrev pub IsOwn : TxId → Lock → Type 0
IsOwn holder l = l.holder ≡ holder

own_middle : (s : Span) (holder : TxId) (middle : List Lock) → s.at < s.end → AllByRecursion (λ (l : Lock). l.span.at < l.span.end) middle → AllByRecursion (Meets s) middle
    → ((place : ℕ) (id : TxId) → has place s ≡ true → is_locked middle place id ≡ true → id ≡ holder) → AllByRecursion (IsOwn holder) middle
own_middle s holder [] some open_ meet free = tt
own_middle s holder (l ∷ middle) some open_ meet free =
    let both = shared s l some open_.0 meet.0 in (
      free both.0 l.holder both.1 (or_left (is_same l.holder l.holder && has both.0 l.span) (is_locked middle both.0 l.holder)
          (and_from (is_same l.holder l.holder) (has both.0 l.span) (same_self l.holder) both.2)),
      own_middle s holder middle some open_.1 meet.1
          (λ place id mine locked. free place id mine (or_right (is_same l.holder id && has place l.span) (is_locked middle place id) locked)),
    )

pub own_between : (s : Span) (holder : TxId) (front middle rest : List Lock) → s.at < s.end → IsLine (front ++ (middle ++ rest)) → AllByRecursion (Meets s) middle
    → IsSpanFreeFor (front ++ (middle ++ rest)) holder s → AllByRecursion (IsOwn holder) middle
own_between s holder front middle rest some line meet free =
    own_middle s holder middle some (all_some middle (line_left middle rest (line_right front (middle ++ rest) line))) meet
    (λ place id mine locked. free place id mine (in_parts front middle rest place id
    ∙ or_right (is_locked front place id) (is_locked middle place id || is_locked rest place id) (or_left (is_locked middle place id) (is_locked rest place id) locked)))

none_of_others : (holder : TxId) (middle : List Lock) (place : ℕ) (id : TxId) → AllByRecursion (IsOwn holder) middle → is_same holder id ≡ false → is_locked middle place id ≡ false
none_of_others holder [] place id own other = refl
none_of_others holder (l ∷ middle) place id own other =
    or_from (is_same l.holder id && has place l.span) (is_locked middle place id)
    (and_left (is_same l.holder id) (has place l.span) (subst (λ (x : TxId). is_same x id ≡ false) (sym own.0) other))
    (none_of_others holder middle place id own.1 other)

-- ---- put in

mixed : (x h a b : Bool) → (x || (h && (a || b))) ≡ (((h && a) || x) || (h && b))
mixed true true true b = refl
mixed true true false b = refl
mixed true false a b = refl
mixed false true true b = refl
mixed false true false b = refl
mixed false false a b = refl

wider : (s : Span) (l : Lock) (middle : List Lock) → AllByRecursion (Meets s) middle → AllByRecursion (Meets (joined s l.span)) middle
wider s l [] meet = tt
wider s l (o ∷ middle) meet = ((omega (arith, meet.0.0), omega (arith, meet.0.1)), wider s l middle meet.1)

hull_locked : (s : Span) (holder : TxId) (middle : List Lock) (place : ℕ) (id : TxId) → AllByRecursion (Meets s) middle → AllByRecursion (IsOwn holder) middle
    → (is_same holder id && has place (hull s middle)) ≡ (is_locked middle place id || (is_same holder id && has place s))
hull_locked s holder [] place id meet own = refl
hull_locked s holder (l ∷ middle) place id meet own =
    hull_locked (joined s l.span) holder middle place id (wider s l middle meet.1) own.1
    ∙ ap (λ (b : Bool). is_locked middle place id || (is_same holder id && b)) (has_joined place s l.span meet.0.0 meet.0.1)
    ∙ mixed (is_locked middle place id) (is_same holder id) (has place l.span) (has place s)
    ∙ ap (λ (x : TxId). ((is_same x id && has place l.span) || is_locked middle place id) || (is_same holder id && has place s)) (sym own.0)

regrouped : (f m r x : Bool) → (f || ((m || x) || r)) ≡ ((f || (m || r)) || x)
regrouped true m r x = refl
regrouped false true r x = refl
regrouped false false true true = refl
regrouped false false true false = refl
regrouped false false false true = refl
regrouped false false false false = refl

pub span_locked : (s : Span) (holder : TxId) (front middle rest : List Lock) → AllByRecursion (Meets s) middle → AllByRecursion (IsOwn holder) middle
    → IsSpanLocked (front ++ (middle ++ rest)) (front ++ whole s holder middle ∷ rest) holder s
span_locked s holder front middle rest meet own place id =
    in_both front (whole s holder middle ∷ rest) place id
    ∙ ap (λ (b : Bool). is_locked front place id || (b || is_locked rest place id)) (hull_locked s holder middle place id meet own)
    ∙ regrouped (is_locked front place id) (is_locked middle place id) (is_locked rest place id) (is_same holder id && has place s)
    ∙ ap (λ (b : Bool). b || (is_same holder id && has place s)) (sym (in_parts front middle rest place id))

-- ---- taken out

-- all others lock what they locked, and the holder nothing of the span
pub record IsWithout (before now : List Lock) (holder : TxId) (s : Span) : Type 0 where
  pub others : (place : ℕ) (id : TxId) → is_same holder id ≡ false → is_locked now place id ≡ is_locked before place id
  pub own : (place : ℕ) → is_locked now place holder ≡ true → (is_locked before place holder ≡ true) × (has place s ≡ false)

either : (f m r : Bool) → (f || r) ≡ true → (f || (m || r)) ≡ true
either true m r e = refl
either false true r e = refl
either false false r e = e

beside_none : (f m r : Bool) → m ≡ false → (f || r) ≡ (f || (m || r))
beside_none f m r none = ap (λ (b : Bool). f || (b || r)) (sym none)

not_both : (a : Bool) → a ≡ true → a ≡ false → ⊥
not_both true is not_ = absurd cc
not_both false is not_ = absurd cc

pub span_without : (s : Span) (holder : TxId) (front middle rest : List Lock) → AllByRecursion (IsEnded s) front → AllByRecursion (IsBehind s) rest
    → AllByRecursion (IsOwn holder) middle → IsWithout (front ++ (middle ++ rest)) (front ++ rest) holder s
span_without s holder front middle rest before behind own = record {
  others = λ place id other. in_both front rest place id
      ∙ beside_none (is_locked front place id) (is_locked middle place id) (is_locked rest place id) (none_of_others holder middle place id own other)
      ∙ sym (in_parts front middle rest place id);
  own = λ place locked. (
    in_parts front middle rest place holder
        ∙ either (is_locked front place holder) (is_locked middle place holder) (is_locked rest place holder) (sym (in_both front rest place holder) ∙ locked),
    false_from_ne_true (has place s) (λ mine. not_both (is_locked (front ++ rest) place holder) locked (in_both front rest place holder
        ∙ or_from (is_locked front place holder) (is_locked rest place holder) (none_before s front place holder before mine) (none_behind s rest place holder behind mine))),
  );
}
