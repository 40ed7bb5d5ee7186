-- The least holder that the index finds is the least of the records.
use Rattle.std.proofs.Common.{◌≡◌, ◌⊎◌, ◌+◌, ℕ, Bool, true, false, cond, ◌&&◌, List, [], ◌∷◌, map, Option, Some, None, is_some, inl, inr, refl, sym, ap, subst, ◌∙◌, arith}
use Rattle.std.specs.Prelude.{max, min}
use Rattle.std.specs.List.{AllByRecursion, All, list_any}
use Rattle.std.proofs.lemmas.Bool.{ltb-true, or_cases, or_left, or_right, and_parts, and_from, false_from_ne_true, true_from_ne_false}
use Rattle.std.proofs.lemmas.List.Elements.{recursion_from_All, All-from_recursion, All-nil}
use Rattle.std.proofs.lemmas.List.Folds.{Any-from_list_any, list_any-from_Any}
use Rattle.mini_tx.specs.declared.placed_item.PlacedItem.{PlacedItem}
use Rattle.mini_tx.specs.Minitransactions.{place_of, bytes_of}
use Rattle.mini_tx.specs.declared.range.Range.{Range}
use Rattle.mini_tx.specs.declared.tx_id.TxId.{TxId}
use Rattle.lock_table.specs.declared.lock.Lock.{Lock}
use Rattle.lock_table.specs.Locked.{IsIn, Blocks}
use Rattle.lock_table.specs.Order.{precedes, is_same, least_of, IsLeastIn}
use Rattle.lock_table.specs.Spans.{covers, overlap, span_of, IsNonempty}
use Rattle.lock_table.proofs.CellLemmas.{has_from}
use Rattle.lock_table.proofs.LeastLemmas.{least_same, one_more}
use Rattle.lock_table.proofs.OrderLemmas.{is_one, same_self, or_after}
use Rattle.mem_rules.specs.declared.kept.Kept.{Kept}
use Rattle.mem_rules.specs.declared.setup.Setup.{Setup}
use Rattle.mem_rules.specs.Fit.{IsInside, IsRangeInside, AreInside, size_of}
use Rattle.mem_rules.specs.Good.{IsInPlace}
use Rattle.mem_rules.specs.Index.{is_locked_by, IsIndexed, ranges_kept}
use Rattle.mem_rules.specs.Items.{range_of}
use Rattle.mem_rules.specs.Rules.{is_undecided, meet, blocks, least_with}
use Rattle.mem_rules.specs.State.{kept_of}
use Rattle.mem_rules.proofs.GoodLemmas.{no_byte, of_found}
use Rattle.mem_rules.proofs.IndexLemmas.{locks_there, locked_blocks}

not_both : (b : Bool) → b ≡ true → b ≡ false → ⊥
not_both true one two = absurd cc
not_both false one two = absurd cc

-- an identifier has one of the records with a property
abbrev pub Has : (Kept → Bool) → List Kept → TxId → Type 0
Has test [] id = ⊥
Has test (k ∷ kept) id = ((test k ≡ true) × (k.id ≡ id)) ⊎ Has test kept id

with_more : (test : Kept → Bool) (P : TxId → Type 0) (kept : List Kept) (least : Option TxId) → IsLeastIn P least
    → IsLeastIn (λ id. P id ⊎ Has test kept id) (least_with test least kept)
with_more test P [] least is = least_same P (λ id. P id ⊎ ⊥) least (λ id p. inl p) (λ id h. elim h [ inl p ↦ p | inr none ↦ absurd none ]) is
with_more test P (k ∷ kept) least is =
    go (test k) refl (with_more test (λ id. P id ⊎ (k.id ≡ id)) kept (least_of least k.id) (one_more P k.id least is)) (with_more test P kept least is)
  where
    go : (b : Bool) → test k ≡ b → IsLeastIn (λ id. (P id ⊎ (k.id ≡ id)) ⊎ Has test kept id) (least_with test (least_of least k.id) kept)
        → IsLeastIn (λ id. P id ⊎ Has test kept id) (least_with test least kept) → IsLeastIn (λ id. P id ⊎ Has test (k ∷ kept) id) (least_with test (cond b (least_of least k.id) least) kept)
    go true own with_ without =
        least_same (λ id. (P id ⊎ (k.id ≡ id)) ⊎ Has test kept id) (λ id. P id ⊎ (((test k ≡ true) × (k.id ≡ id)) ⊎ Has test kept id)) (least_with test (least_of least k.id) kept)
        (λ id h. elim h [
          | inl both ↦ elim both [ inl p ↦ inl p | inr e ↦ inr (inl (own, e)) ]
          | inr later ↦ inr (inr later)
        ])
        (λ id h. elim h [
          | inl p ↦ inl (inl p)
          | inr both ↦ elim both [ inl e ↦ inl (inr e.1) | inr later ↦ inr later ]
        ])
        with_
    go false other with_ without =
        least_same (λ id. P id ⊎ Has test kept id) (λ id. P id ⊎ (((test k ≡ true) × (k.id ≡ id)) ⊎ Has test kept id)) (least_with test least kept)
        (λ id h. elim h [ inl p ↦ inl p | inr later ↦ inr (inr later) ])
        (λ id h. elim h [
          | inl p ↦ inl p
          | inr both ↦ elim both [ inl e ↦ absurd (not_both (test k) e.0 other) | inr later ↦ inr later ]
        ])
        without

least_is_with : (test : Kept → Bool) (kept : List Kept) → IsLeastIn (Has test kept) (least_with test None kept)
least_is_with test kept =
    least_same (λ id. ⊥ ⊎ Has test kept id) (Has test kept) (least_with test None kept) (λ id h. elim h [ inl none ↦ absurd none | inr h ↦ h ]) (λ id h. inr h)
    (with_more test (λ id. ⊥) kept None (λ id none. none))

-- there is one least
one_least : (P : TxId → Type 0) (a b : Option TxId) → IsLeastIn P a → IsLeastIn P b → a ≡ b
one_least P None None one two = refl
one_least P None (Some b) one two = absurd (one b two.0)
one_least P (Some a) None one two = absurd (two a one.0)
one_least P (Some a) (Some b) one two = go (is_same a b) refl
  where
    go : (x : Bool) → is_same a b ≡ x → ◌≡◌ {A = Option TxId} (Some a) (Some b)
    go true same = ap Some (is_one a b same)
    go false other = let first : precedes b a ≡ true = or_after a b (two.1 a one.0) other in absurd (not_both (precedes b a) first (one.1 b two.0))

-- ---- who blocks is who locks

-- ranges that meet share a place
meet_place : (these those : List Range) → meet these those ≡ true → (place : ℕ) × IsIn these place × IsIn those place
meet_place these those e =
    let one = Any-from_list_any (λ (a : Range). list_any (overlap a) those) these e in
    let a = one.1 in
    let two = Any-from_list_any (overlap a) those one.4 in
    let b = two.1 in
    let both = ltb-true (max a.at b.at) (min (a.at + a.length) (b.at + b.length)) two.4 in
    let place = max a.at b.at in (
      place,
      list_any-from_Any (covers place) these (one.0, one.1, one.2, one.3, has_from place (span_of a) (omega arith) (omega (arith, both))),
      list_any-from_Any (covers place) those (two.0, two.1, two.2, two.3, has_from place (span_of b) (omega arith) (omega (arith, both))),
    )

has_locks : (ranges : List Range) (kept : List Kept) (id : TxId) → Has (blocks ranges) kept id → (place : ℕ) × IsIn ranges place × (is_locked_by kept place id ≡ true)
has_locks ranges [] id h = absurd h
has_locks ranges (k ∷ kept) id (inl h) =
    let parts = and_parts (is_undecided k) (meet k.ranges ranges) h.0 in
    let both = meet_place k.ranges ranges parts.1 in (
      both.0,
      both.2,
      or_left (locks_there both.0 id k) (is_locked_by kept both.0 id)
          (and_from (is_undecided k) (is_same k.id id && list_any (covers both.0) k.ranges) parts.0
          (and_from (is_same k.id id) (list_any (covers both.0) k.ranges) (subst (λ (x : TxId). is_same k.id x ≡ true) h.1 (same_self k.id)) both.1)),
    )
has_locks ranges (k ∷ kept) id (inr later) =
    let there = has_locks ranges kept id later in
    (there.0, there.1, or_right (locks_there there.0 id k) (is_locked_by kept there.0 id) there.2)

locks_has : (ranges : List Range) (kept : List Kept) (id : TxId) (place : ℕ) → IsIn ranges place → is_locked_by kept place id ≡ true → Has (blocks ranges) kept id
locks_has ranges [] id place own locked = absurd cc
locks_has ranges (k ∷ kept) id place own locked = elim (or_cases (locks_there place id k) (is_locked_by kept place id) locked) [
  | inl here ↦
      let one = and_parts (is_undecided k) (is_same k.id id && list_any (covers place) k.ranges) here in
      let two = and_parts (is_same k.id id) (list_any (covers place) k.ranges) one.1 in
      inl (
        and_from (is_undecided k) (meet k.ranges ranges) one.0 (true_from_ne_false (meet k.ranges ranges) (λ apart. no_byte k.ranges ranges apart place two.1 own)),
        is_one k.id id two.0,
      )
  | inr later ↦ inr (locks_has ranges kept id place own later)
]

pub least_is : (ranges : List Range) (kept : List Kept) (locks : List Lock) (least : Option TxId) → IsIndexed kept locks → IsLeastIn (Blocks locks ranges) least
    → least ≡ least_with (blocks ranges) None kept
least_is ranges kept locks least indexed found =
    one_least (Has (blocks ranges) kept) least (least_with (blocks ranges) None kept)
    (least_same (Blocks locks ranges) (Has (blocks ranges) kept) least
    (λ id b. locks_has ranges kept id b.0 b.1 (sym (indexed b.0 id) ∙ b.2))
    (λ id h. let there = has_locks ranges kept id h in (there.0, there.1, indexed there.0 id ∙ there.2))
    found)
    (least_is_with (blocks ranges) kept)

-- whether there is one is whether a record blocks
pub is_blocked : (ranges : List Range) (kept : List Kept) (locks : List Lock) (least : Option TxId) → IsIndexed kept locks → IsLeastIn (Blocks locks ranges) least
    → is_some least ≡ list_any (blocks ranges) kept
is_blocked ranges kept locks None indexed found = sym (false_from_ne_true (list_any (blocks ranges) kept) (λ blocked. none blocked))
  where
    any_has : (ks : List Kept) → list_any (blocks ranges) ks ≡ true → (id : TxId) × Has (blocks ranges) ks id
    any_has [] blocked = absurd cc
    any_has (k ∷ ks) blocked = elim (or_cases (blocks ranges k) (list_any (blocks ranges) ks) blocked) [
      | inl here ↦ (k.id, inl (here, refl))
      | inr later ↦ let there = any_has ks later in (there.0, inr there.1)
    ]

    none : list_any (blocks ranges) kept ≡ true → ⊥
    none blocked =
        let one = any_has kept blocked in
        let there = has_locks ranges kept one.0 one.1 in
        found one.0 (there.0, there.1, indexed there.0 one.0 ∙ there.2)
is_blocked ranges kept locks (Some least) indexed found =
    sym (locked_blocks ranges kept found.0.0 least found.0.1 (sym (indexed found.0.0 least) ∙ found.0.2))

-- ---- ranges that have places

pub inside_nonempty : (size : ℕ) (ranges : List Range) → All (IsRangeInside size) ranges → All IsNonempty ranges
inside_nonempty size ranges inside k d below = (inside k d below).0

pub items_nonempty : (size : ℕ) (items : List PlacedItem) → AreInside size items → All IsNonempty (map range_of items)
items_nonempty size items inside =
    All-from_recursion IsNonempty (map range_of items) (go items (recursion_from_All (λ (p : PlacedItem). IsInside size (place_of p.item) (bytes_of p.item)) items inside))
  where
    go : (ps : List PlacedItem) → AllByRecursion (λ (p : PlacedItem). IsInside size (place_of p.item) (bytes_of p.item)) ps → AllByRecursion IsNonempty (map range_of ps)
    go [] all = tt
    go (p ∷ ps) all = (all.0.0, go ps all.1)

pub kept_nonempty : (s : Setup) (kept : List Kept) (id : TxId) → AllByRecursion (IsInPlace s) kept → All IsNonempty (ranges_kept (kept_of kept id))
kept_nonempty s kept id all = go (kept_of kept id) refl
  where
    go : (o : Option Kept) → kept_of kept id ≡ o → All IsNonempty (ranges_kept o)
    go None is = All-nil _
    go (Some k) is = inside_nonempty (size_of s) k.ranges (of_found (IsInPlace s) (λ (x : Kept). is_same x.id id) kept k all is).ranges
