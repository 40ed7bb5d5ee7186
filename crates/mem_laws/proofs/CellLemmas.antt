-- Identifiers as numbers keep their order, and ranges as cells what they share.
use Rattle.std.proofs.Common.{◌≡◌, ℕ, zero, suc, ◌+◌, ◌<◌, ◌≤◌, nat_lt, ◌==◌, Bool, true, false, ◌&&◌, List, [], ◌∷◌, inl, inr, refl, sym, arith}
use Rattle.std.specs.Prelude.{max, min}
use Rattle.std.specs.List.{list_any}
use Rattle.std.proofs.lemmas.Bool.{ltb-true, lt-ltb, eqb-true, eq-eqb, or_cases, or_left, or_right, and_parts, and_from, cases_eq, true_from_ne_false}
use Rattle.mini_tx.specs.declared.range.Range.{Range}
use Rattle.mini_tx.specs.declared.tx_id.TxId.{TxId}
use Rattle.mini_tx.specs.Laws.{IsTypedId}
use Rattle.lock_table.specs.Spans.{overlap}
use Rattle.mem_rules.specs.Identifiers.{precedes, is_same}
use Rattle.mem_rules.specs.Rules.{meet}
use Rattle.lock_table.proofs.OrderLemmas.{before_of, of_before}
use Rattle.tx_rules.specs.Mini.{In}
use Rattle.tx_rules.proofs.FaithfulLemmas.{in_front, in_back, in_either}
use Rattle.tx_rules.specs.Lists as tests
use Rattle.tx_actors.proofs.LawLemmas.{identifiers_are_ordered}
use Rattle.tx_actors.proofs.TestLemmas.{is_in-In, overlap-none}
use Rattle.mem_laws.specs.Cells.{number, cells_from, cells_in}

-- two tests that hold together are the same
pub same_tests : (x y : Bool) → (x ≡ true → y ≡ true) → (y ≡ true → x ≡ true) → x ≡ y
same_tests true y forth back = sym (forth refl)
same_tests false true forth back = back refl
same_tests false false forth back = refl

-- ---- identifiers

-- numbers are ordered as identifiers are
pub order_is : (a b : TxId) → IsTypedId a → IsTypedId b → nat_lt (number a) (number b) ≡ precedes a b
order_is a b ta tb =
    let ordered = identifiers_are_ordered a.coord a.boot a.seq b.coord b.boot b.seq ta.1 ta.2 tb.1 tb.2 in
    same_tests (nat_lt (number a) (number b)) (precedes a b)
    (λ h. of_before a b (ordered.0 (ltb-true (number a) (number b) h)))
    (λ h. lt-ltb (number a) (number b) (ordered.1 (before_of a b h)))

-- the same identifier has the same number
pub number_same : (a b : TxId) → is_same a b ≡ true → number a ≡ number b
number_same a b h =
    let one = and_parts (a.coord == b.coord) ((a.boot == b.boot) && (a.seq == b.seq)) h in
    let two = and_parts (a.boot == b.boot) (a.seq == b.seq) one.1 in
    let c = eqb-true a.coord b.coord one.0 in
    let d = eqb-true a.boot b.boot two.0 in
    let e = eqb-true a.seq b.seq two.1 in
    omega (arith, c, d, e)

-- and is the only one that has it
pub sameness_is : (a b : TxId) → IsTypedId a → IsTypedId b → (number a == number b) ≡ is_same a b
sameness_is a b ta tb = same_tests (number a == number b) (is_same a b) forth (λ h. eq-eqb (number a) (number b) (number_same a b h))
  where
    forth : (number a == number b) ≡ true → is_same a b ≡ true
    forth h =
        let e : number a ≡ number b = eqb-true (number a) (number b) h in
        let p = ta.1 in
        let q = ta.2 in
        let r = tb.1 in
        let u = tb.2 in
        let c : a.coord ≡ b.coord = omega (arith, e, p, q, r, u) in
        let d : a.boot ≡ b.boot = omega (arith, e, p, q, r, u, c) in
        let f : a.seq ≡ b.seq = omega (arith, e, c, d) in
        and_from (a.coord == b.coord) _ (eq-eqb a.coord b.coord c) (and_from (a.boot == b.boot) _ (eq-eqb a.boot b.boot d) (eq-eqb a.seq b.seq f))

-- ---- cells

pub in_from : (at n c : ℕ) → In c (cells_from at n) → (at ≤ c) × (c < at + n)
in_from at zero c h = absurd h
in_from at (suc n) c h = elim h [
  | inl e ↦ (omega (arith, e), omega (arith, e))
  | inr rest ↦ let r = in_from (at + 1) n c rest in (omega (arith, r), omega (arith, r))
]

pub from_in : (at n c : ℕ) → at ≤ c → c < at + n → In c (cells_from at n)
from_in at zero c low high = absurd (omega arith)
from_in at (suc n) c low high = elim (cases_eq c at) [
  | inl e ↦ inl e
  | inr other ↦ inr (from_in (at + 1) n c (omega (arith, other)) (omega arith))
]

-- ---- tests of ranges, and of their cells

common : (xs ys : List ℕ) → tests.overlap xs ys ≡ true → (c : ℕ) × In c xs × In c ys
common [] ys h = absurd cc
common (x ∷ xs) ys h = elim (or_cases (tests.is_in x ys) (tests.overlap xs ys) h) [
  | inl here ↦ (x, inl refl, is_in-In x ys here)
  | inr rest ↦ let r = common xs ys rest in (r.0, inr r.1, r.2)
]

of_common : (xs ys : List ℕ) (c : ℕ) → In c xs → In c ys → tests.overlap xs ys ≡ true
of_common xs ys c first second = true_from_ne_false (tests.overlap xs ys) (λ none. overlap-none xs ys none c first second)

shared : (a b : Range) (c : ℕ) → a.at ≤ c → c < a.at + a.length → b.at ≤ c → c < b.at + b.length → overlap a b ≡ true
shared a b c low high below above = lt-ltb (max a.at b.at) (min (a.at + a.length) (b.at + b.length)) (omega arith)

hits : (r : Range) (ranges : List Range) (c : ℕ) → r.at ≤ c → c < r.at + r.length → In c (cells_in ranges) → list_any (overlap r) ranges ≡ true
hits r [] c low high h = absurd h
hits r (x ∷ ranges) c low high h = elim (in_either c (cells_from x.at x.length) (cells_in ranges) h) [
  | inl here ↦ let within = in_from x.at x.length c here in or_left (overlap r x) (list_any (overlap r) ranges) (shared r x c low high within.0 within.1)
  | inr rest ↦ or_right (overlap r x) (list_any (overlap r) ranges) (hits r ranges c low high rest)
]

meets : (xs ys : List Range) (c : ℕ) → In c (cells_in xs) → In c (cells_in ys) → meet xs ys ≡ true
meets [] ys c h other = absurd h
meets (x ∷ xs) ys c h other = elim (in_either c (cells_from x.at x.length) (cells_in xs) h) [
  | inl here ↦ let within = in_from x.at x.length c here in or_left (list_any (overlap x) ys) (meet xs ys) (hits x ys c within.0 within.1 other)
  | inr rest ↦ or_right (list_any (overlap x) ys) (meet xs ys) (meets xs ys c rest other)
]

hit_cell : (r : Range) (ranges : List Range) → list_any (overlap r) ranges ≡ true → (c : ℕ) × (r.at ≤ c) × (c < r.at + r.length) × In c (cells_in ranges)
hit_cell r [] h = absurd cc
hit_cell r (x ∷ ranges) h = elim (or_cases (overlap r x) (list_any (overlap r) ranges) h) [
  | inl here ↦
      let less = ltb-true (max r.at x.at) (min (r.at + r.length) (x.at + x.length)) here in (
        max r.at x.at,
        omega (arith, less),
        omega (arith, less),
        in_front (max r.at x.at) (cells_from x.at x.length) (cells_in ranges) (from_in x.at x.length (max r.at x.at) (omega (arith, less)) (omega (arith, less))),
      )
  | inr rest ↦ let found = hit_cell r ranges rest in (found.0, found.1, found.2, in_back found.0 (cells_from x.at x.length) (cells_in ranges) found.3)
]

meet_cell : (xs ys : List Range) → meet xs ys ≡ true → (c : ℕ) × In c (cells_in xs) × In c (cells_in ys)
meet_cell [] ys h = absurd cc
meet_cell (x ∷ xs) ys h = elim (or_cases (list_any (overlap x) ys) (meet xs ys) h) [
  | inl here ↦
      let found = hit_cell x ys here in
      (found.0, in_front found.0 (cells_from x.at x.length) (cells_in xs) (from_in x.at x.length found.0 found.1 found.2), found.3)
  | inr rest ↦ let found = meet_cell xs ys rest in (found.0, in_back found.0 (cells_from x.at x.length) (cells_in xs) found.1, found.2)
]

-- ranges meet exactly where their cells do, whichever come first
pub meet_is : (xs ys : List Range) → tests.overlap (cells_in ys) (cells_in xs) ≡ meet xs ys
meet_is xs ys = same_tests (tests.overlap (cells_in ys) (cells_in xs)) (meet xs ys)
    (λ h. let found = common (cells_in ys) (cells_in xs) h in meets xs ys found.0 found.2 found.1)
    (λ h. let found = meet_cell xs ys h in of_common (cells_in ys) (cells_in xs) found.0 found.2 found.1)
