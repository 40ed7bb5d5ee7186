-- The least holder, with the locks that have places of one more range.
use Rattle.std.proofs.Common.{◌≡◌, ◌⊎◌, ◌<◌, ◌≤◌, ◌+◌, ℕ, Bool, true, false, cond, ◌&&◌, ◌||◌, List, [], ◌∷◌, ◌++◌, Option, Some, None, take, length, get_or, inl, inr, refl, sym, ap, subst, ◌∙◌, arith}
use Rattle.std.specs.List.{AllByRecursion, list_any}
use Rattle.std.proofs.lemmas.Bool.{and_parts, and_from, or_left, or_right, or_cases, false_from_ne_true}
use Rattle.std.proofs.lemmas.List.Folds.{list_any_more}
use Rattle.mini_tx.specs.declared.range.Range.{Range}
use Rattle.mini_tx.specs.declared.tx_id.TxId.{TxId}
use Rattle.lock_table.specs.declared.lock.Lock.{Lock}
use Rattle.lock_table.specs.declared.span.Span.{Span}
use Rattle.lock_table.specs.Order.{precedes, is_same, least_of, least_among, IsLeastIn}
use Rattle.lock_table.specs.Spans.{covers, span_of, has}
use Rattle.lock_table.specs.Locked.{is_locked, Blocks, IsLine, Meets, IsWindow}
use Rattle.lock_table.proofs.OrderLemmas.{trans, before_of, not_itself, is_one, same_self}
use Rattle.lock_table.proofs.LineLemmas.{all_some, line_left, line_right}
use Rattle.lock_table.proofs.CellLemmas.{in_parts, shared, none_before, none_behind}

pub least_same : (P Q : TxId → Type 0) (least : Option TxId) → ((id : TxId) → P id → Q id) → ((id : TxId) → Q id → P id) → IsLeastIn P least → IsLeastIn Q least
least_same P Q None forth back is = λ id h. is id (back id h)
least_same P Q (Some least) forth back is = (forth least is.0, λ id h. is.1 id (back id h))

not_self : (a : TxId) → precedes a a ≡ false
not_self a = false_from_ne_true (precedes a a) (λ h. not_itself a (before_of a a h))

not_both : (a : Bool) → a ≡ true → a ≡ false → ⊥
not_both true is not_ = absurd cc
not_both false is not_ = absurd cc

-- one more identifier
pub one_more : (P : TxId → Type 0) (holder : TxId) (least : Option TxId) → IsLeastIn P least → IsLeastIn (λ id. P id ⊎ (holder ≡ id)) (least_of least holder)
one_more P holder None is = (
  inr refl,
  λ id h. elim h [
    | inl p ↦ absurd (is id p)
    | inr e ↦ subst (λ (x : TxId). precedes x holder ≡ false) e (not_self holder)
  ],
)
one_more P holder (Some least) is = go (precedes holder least) refl
  where
    go : (b : Bool) → precedes holder least ≡ b → IsLeastIn (λ id. P id ⊎ (holder ≡ id)) (cond b (Some holder) (Some least))
    go true before = (
      inr refl,
      λ id h. elim h [
        | inl p ↦ false_from_ne_true (precedes id holder) (λ first. not_both (precedes id least) (trans id holder least first before) (is.1 id p))
        | inr e ↦ subst (λ (x : TxId). precedes x holder ≡ false) e (not_self holder)
      ],
    )
    go false behind = (
      inl is.0,
      λ id h. elim h [
        | inl p ↦ is.1 id p
        | inr e ↦ subst (λ (x : TxId). precedes x least ≡ false) e behind
      ],
    )

-- an identifier holds one of these locks
abbrev pub Holds : List Lock → TxId → Type 0
Holds [] id = ⊥
Holds (l ∷ locks) id = (l.holder ≡ id) ⊎ Holds locks id

pub all_more : (P : TxId → Type 0) (locks : List Lock) (least : Option TxId) → IsLeastIn P least → IsLeastIn (λ id. P id ⊎ Holds locks id) (least_among least locks)
all_more P [] least is = least_same P (λ id. P id ⊎ ⊥) least (λ id p. inl p) (λ id h. elim h [ inl p ↦ p | inr none ↦ absurd none ]) is
all_more P (l ∷ locks) least is =
    least_same (λ id. (P id ⊎ (l.holder ≡ id)) ⊎ Holds locks id) (λ id. P id ⊎ ((l.holder ≡ id) ⊎ Holds locks id)) (least_among (least_of least l.holder) locks)
    (λ id h. elim h [
      | inl both ↦ elim both [ inl p ↦ inl p | inr e ↦ inr (inl e) ]
      | inr later ↦ inr (inr later)
    ])
    (λ id h. elim h [
      | inl p ↦ inl (inl p)
      | inr both ↦ elim both [ inl e ↦ inl (inr e) | inr later ↦ inr later ]
    ])
    (all_more (λ id. P id ⊎ (l.holder ≡ id)) locks (least_of least l.holder) (one_more P l.holder least is))

-- ---- what holds a lock of the middle locks a place of the span, and the other way round

holds_from : (locks : List Lock) (place : ℕ) (id : TxId) → is_locked locks place id ≡ true → Holds locks id
holds_from [] place id locked = absurd cc
holds_from (l ∷ locks) place id locked = elim (or_cases (is_same l.holder id && has place l.span) (is_locked locks place id) locked) [
  | inl here ↦ inl (is_one l.holder id (and_parts (is_same l.holder id) (has place l.span) here).0)
  | inr later ↦ inr (holds_from locks place id later)
]

locked_from : (s : Span) (locks : List Lock) (id : TxId) → s.at < s.end → AllByRecursion (λ (l : Lock). l.span.at < l.span.end) locks → AllByRecursion (Meets s) locks
    → Holds locks id → (place : ℕ) × (has place s ≡ true) × (is_locked locks place id ≡ true)
locked_from s [] id some open_ meet h = absurd h
locked_from s (l ∷ locks) id some open_ meet (inl e) =
    let both = shared s l some open_.0 meet.0 in (
      both.0,
      both.1,
      or_left (is_same l.holder id && has both.0 l.span) (is_locked locks both.0 id)
          (and_from (is_same l.holder id) (has both.0 l.span) (subst (λ (x : TxId). is_same l.holder x ≡ true) e (same_self l.holder)) both.2),
    )
locked_from s (l ∷ locks) id some open_ meet (inr later) =
    let there = locked_from s locks id some open_.1 meet.1 later in
    (there.0, there.1, or_right (is_same l.holder id && has there.0 l.span) (is_locked locks there.0 id) there.2)

pub one_range : (locks : List Lock) (ranges : List Range) (i : ℕ) (r d : Range) (s : Span) (from to : ℕ) (least : Option TxId) → i < length ranges → r ≡ get_or ranges i d
    → s ≡ span_of r → 1 ≤ r.length → IsLine locks → (w : IsWindow locks s from to) → IsLeastIn (Blocks locks (take i ranges)) least
    → IsLeastIn (Blocks locks (take (i + 1) ranges)) (least_among least w.middle)
one_range locks ranges i r d s from to least below is span some line w so_far =
    least_same (λ id. Blocks locks (take i ranges) id ⊎ Holds w.middle id) (Blocks locks (take (i + 1) ranges)) (least_among least w.middle) forth back
    (all_more (Blocks locks (take i ranges)) w.middle least so_far)
  where
    own : s.at < s.end
    own = subst (λ (x : Span). x.at < x.end) (sym span) (let e : r.at < r.at + r.length = omega (arith, some) in e)

    line_ : IsLine (w.front ++ (w.middle ++ w.rest))
    line_ = subst IsLine w.is line

    more : (place : ℕ) → list_any (covers place) (take (i + 1) ranges) ≡ (list_any (covers place) (take i ranges) || covers place r)
    more place = list_any_more (covers place) ranges i d below ∙ ap (λ (x : Range). list_any (covers place) (take i ranges) || covers place x) (sym is)

    locked : (place : ℕ) (id : TxId) → is_locked locks place id ≡ (is_locked w.front place id || (is_locked w.middle place id || is_locked w.rest place id))
    locked place id = ap (λ (ls : List Lock). is_locked ls place id) w.is ∙ in_parts w.front w.middle w.rest place id

    only : (f m x : Bool) → f ≡ false → x ≡ false → (f || (m || x)) ≡ true → m ≡ true
    only true m x one two e = absurd cc
    only false true x one two e = refl
    only false false x one two e = let k : false ≡ true = sym two ∙ e in absurd cc

    forth : (id : TxId) → Blocks locks (take i ranges) id ⊎ Holds w.middle id → Blocks locks (take (i + 1) ranges) id
    forth id (inl b) = (b.0, more b.0 ∙ or_left (list_any (covers b.0) (take i ranges)) (covers b.0 r) b.1, b.2)
    forth id (inr h) =
        let there = locked_from s w.middle id own (all_some w.middle (line_left w.middle w.rest (line_right w.front (w.middle ++ w.rest) line_))) w.meet h in (
          there.0,
          more there.0 ∙ or_right (list_any (covers there.0) (take i ranges)) (covers there.0 r) (ap (λ (x : Span). has there.0 x) (sym span) ∙ there.1),
          locked there.0 id ∙ or_right (is_locked w.front there.0 id) (is_locked w.middle there.0 id || is_locked w.rest there.0 id)
              (or_left (is_locked w.middle there.0 id) (is_locked w.rest there.0 id) there.2),
        )

    back : (id : TxId) → Blocks locks (take (i + 1) ranges) id → Blocks locks (take i ranges) id ⊎ Holds w.middle id
    back id b = elim (or_cases (list_any (covers b.0) (take i ranges)) (covers b.0 r) (sym (more b.0) ∙ b.1)) [
      | inl before ↦ inl (b.0, before, b.2)
      | inr here ↦
          let mine = ap (λ (x : Span). has b.0 x) span ∙ here in
          inr (holds_from w.middle b.0 id (only (is_locked w.front b.0 id) (is_locked w.middle b.0 id) (is_locked w.rest b.0 id)
          (none_before s w.front b.0 id w.before mine) (none_behind s w.rest b.0 id w.behind mine) (sym (locked b.0 id) ∙ b.2)))
    ]
