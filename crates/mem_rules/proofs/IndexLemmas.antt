-- The index of locks has the ranges of the undecided records, whatever entry is taken.
use Rattle.std.proofs.Common.{◌≡◌, ℕ, Bool, true, false, not, cond, ◌&&◌, ◌||◌, List, [], ◌∷◌, map, filter, Option, Some, None, inl, inr, refl, sym, ap, subst, ◌∙◌}
use Rattle.std.specs.List.{AllByRecursion, list_any}
use Rattle.std.proofs.lemmas.Bool.{or_cases, or_left, or_right, or_from, and_parts, and_from, and_right, and_left, false_from_ne_true, true_from_ne_false}
use Rattle.mini_tx.specs.declared.range.Range.{Range}
use Rattle.mini_tx.specs.declared.tx_id.TxId.{TxId}
use Rattle.lock_table.specs.declared.lock.Lock.{Lock}
use Rattle.lock_table.specs.Locked.{IsIn, IsFreeFor, IsWhole, IsLockedBeside, IsFreed}
use Rattle.lock_table.specs.Spans.{covers}
use Rattle.lock_table.proofs.OrderLemmas.{is_one, same_self, not_same_back}
use Rattle.mem_rules.specs.declared.kept.Kept.{Kept}
use Rattle.mem_rules.specs.Fit.{IsKeptAs}
use Rattle.mem_rules.specs.Good.{AreAscending, AreApart, AreAllApart}
use Rattle.mem_rules.specs.Identifiers.{precedes, is_same}
use Rattle.mem_rules.specs.Index.{is_locked_by, IsIndexed, ranges_kept}
use Rattle.mem_rules.specs.Rules.{is_undecided, meet, blocks}
use Rattle.mem_rules.specs.State.{kept_of, placed_in, with_decision, decided}
use Rattle.mem_rules.proofs.GoodLemmas.{no_byte, of_found}
use Rattle.mem_rules.proofs.RecordLemmas.{Follows, stays, others_left}

not_both : (b : Bool) → b ≡ true → b ≡ false → ⊥
not_both true is not_ = absurd cc
not_both false is not_ = absurd cc

-- what one record says
abbrev pub locks_there : ℕ → TxId → Kept → Bool
locks_there place id k = is_undecided k && (is_same k.id id && list_any (covers place) k.ranges)

-- ---- a record is kept

placed_locks : (k : Kept) (kept : List Kept) (place : ℕ) (id : TxId) → is_locked_by (placed_in k kept) place id ≡ (is_locked_by kept place id || locks_there place id k)
placed_locks k [] place id = last (locks_there place id k)
  where
    last : (b : Bool) → (b || false) ≡ (false || b)
    last true = refl
    last false = refl
placed_locks k (o ∷ kept) place id = go (precedes o.id k.id) (placed_locks k kept place id)
  where
    behind : (a b c d : Bool) → c ≡ (b || d) → (a || c) ≡ ((a || b) || d)
    behind true b c d e = refl
    behind false b c d e = e

    front : (a b d : Bool) → (d || (a || b)) ≡ ((a || b) || d)
    front true b true = refl
    front true b false = refl
    front false true true = refl
    front false true false = refl
    front false false true = refl
    front false false false = refl

    go : (b : Bool) → is_locked_by (placed_in k kept) place id ≡ (is_locked_by kept place id || locks_there place id k)
        → is_locked_by (cond b (o ∷ placed_in k kept) (k ∷ o ∷ kept)) place id ≡ (is_locked_by (o ∷ kept) place id || locks_there place id k)
    go true rest = behind (locks_there place id o) (is_locked_by kept place id) (is_locked_by (placed_in k kept) place id) (locks_there place id k) rest
    go false rest = front (locks_there place id o) (is_locked_by kept place id) (locks_there place id k)

pub indexed_placed : (k : Kept) (kept : List Kept) (locks new : List Lock) → is_undecided k ≡ true → IsIndexed kept locks → IsLockedBeside locks new k.id k.ranges
    → IsIndexed (placed_in k kept) new
indexed_placed k kept locks new open_ indexed beside place id =
    beside place id
    ∙ ap (λ (b : Bool). b || (is_same k.id id && list_any (covers place) k.ranges)) (indexed place id)
    ∙ ap (λ (b : Bool). is_locked_by kept place id || (b && (is_same k.id id && list_any (covers place) k.ranges))) (sym open_)
    ∙ sym (placed_locks k kept place id)

-- ---- it is decided

same_order : (a b : TxId) → is_same a b ≡ true → is_same b a ≡ true
same_order a b same = subst (λ (x : TxId). is_same x a ≡ true) (is_one a b same) (same_self a)

module _ (id : TxId) (commit : Bool) where
  one_decided : (k : Kept) (place : ℕ) (other : TxId) → locks_there place other (decided id commit k) ≡ (locks_there place other k && not (is_same id other))
  one_decided k place other = go (is_same k.id id) (is_same id other) refl refl
    where
      none : (b : Bool) → false ≡ (b && false)
      none true = refl
      none false = refl

      whole : (b : Bool) → b ≡ (b && true)
      whole true = refl
      whole false = refl

      apart : (u s c : Bool) → s ≡ false → (u && (s && c)) ≡ false
      apart true s c e = and_left s c e
      apart false s c e = refl

      go : (b d : Bool) → is_same k.id id ≡ b → is_same id other ≡ d
          → locks_there place other (cond b (with_decision commit k) k) ≡ (locks_there place other k && not d)
      go true true own is = none (locks_there place other k)
      go true false own is =
          let different : is_same k.id other ≡ false = subst (λ (x : TxId). is_same x other ≡ false) (sym (is_one k.id id own)) is in
          sym (apart (is_undecided k) (is_same k.id other) (list_any (covers place) k.ranges) different) ∙ whole (locks_there place other k)
      go false true own is =
          let different : is_same k.id other ≡ false = subst (λ (x : TxId). is_same k.id x ≡ false) (is_one id other is) own in
          apart (is_undecided k) (is_same k.id other) (list_any (covers place) k.ranges) different ∙ none (locks_there place other k)
      go false false own is = whole (locks_there place other k)

  decided_locks : (kept : List Kept) (place : ℕ) (other : TxId) → is_locked_by (map (decided id commit) kept) place other ≡ (is_locked_by kept place other && not (is_same id other))
  decided_locks [] place other = refl
  decided_locks (k ∷ kept) place other = both (locks_there place other (decided id commit k)) (locks_there place other k) (is_locked_by (map (decided id commit) kept) place other)
      (is_locked_by kept place other) (not (is_same id other)) (one_decided k place other) (decided_locks kept place other)
    where
      spread : (a b n : Bool) → ((a && n) || (b && n)) ≡ ((a || b) && n)
      spread true true true = refl
      spread true true false = refl
      spread true false true = refl
      spread true false false = refl
      spread false b n = refl

      both : (x a y b n : Bool) → x ≡ (a && n) → y ≡ (b && n) → (x || y) ≡ ((a || b) && n)
      both x a y b n one two = ap (λ (z : Bool). z || y) one ∙ ap (λ (z : Bool). (a && n) || z) two ∙ spread a b n

  pub indexed_decided : (kept : List Kept) (locks new : List Lock) → IsIndexed kept locks → IsFreed locks new id → IsIndexed (map (decided id commit) kept) new
  indexed_decided kept locks new indexed freed place other =
      freed place other ∙ ap (λ (b : Bool). b && not (is_same id other)) (indexed place other) ∙ sym (decided_locks kept place other)

-- ---- it is forgotten

-- records behind an identifier do not lock for it
none_after : (id : TxId) (kept : List Kept) (place : ℕ) → AllByRecursion (Follows id) kept → is_locked_by kept place id ≡ false
none_after id [] place later = refl
none_after id (o ∷ kept) place later =
    or_from (locks_there place id o) (is_locked_by kept place id)
    (and_right (is_undecided o) (is_same o.id id && list_any (covers place) o.ranges) (and_left (is_same o.id id) (list_any (covers place) o.ranges) (not_same_back id o.id later.0)))
    (none_after id kept place later.1)

forgotten_locks : (id : TxId) (kept : List Kept) → AreAscending kept → IsKeptAs false (kept_of kept id) → (place : ℕ) (other : TxId)
    → is_locked_by kept place other ≡ is_locked_by (filter (stays id) kept) place other
forgotten_locks id [] ascending known place other = absurd known
forgotten_locks id (k ∷ kept) ascending known place other =
    go (is_same k.id id) refl known (λ later. forgotten_locks id kept ascending.1 later place other)
  where
    go : (b : Bool) → is_same k.id id ≡ b → IsKeptAs false (cond b (Some k) (kept_of kept id))
        → (IsKeptAs false (kept_of kept id) → is_locked_by kept place other ≡ is_locked_by (filter (stays id) kept) place other)
        → is_locked_by (k ∷ kept) place other ≡ is_locked_by (cond (not b) (k ∷ filter (stays id) kept) (filter (stays id) kept)) place other
    go true own closed rest =
        ap (λ (b : Bool). (b && (is_same k.id other && list_any (covers place) k.ranges)) || is_locked_by kept place other) closed
        ∙ ap (λ (ks : List Kept). is_locked_by ks place other)
        (sym (others_left id kept (subst (λ (x : TxId). AllByRecursion (Follows x) kept) (is_one k.id id own) ascending.0)))
    go false own known rest = ap (λ (b : Bool). locks_there place other k || b) (rest known)

pub indexed_forgotten : (id : TxId) (kept : List Kept) (locks : List Lock) → AreAscending kept → IsKeptAs false (kept_of kept id) → IsIndexed kept locks
    → IsIndexed (filter (stays id) kept) locks
indexed_forgotten id kept locks ascending known indexed place other = indexed place other ∙ forgotten_locks id kept ascending known place other

-- ---- which ranges are free

pub locked_blocks : (ranges : List Range) (kept : List Kept) (place : ℕ) (id : TxId) → IsIn ranges place → is_locked_by kept place id ≡ true → list_any (blocks ranges) kept ≡ true
locked_blocks ranges [] place id own locked = absurd cc
locked_blocks ranges (k ∷ kept) place id own locked = elim (or_cases (locks_there place id k) (is_locked_by kept place id) locked) [
  | inl here ↦
      let one = and_parts (is_undecided k) (is_same k.id id && list_any (covers place) k.ranges) here in
      let two = and_parts (is_same k.id id) (list_any (covers place) k.ranges) one.1 in
      or_left (blocks ranges k) (list_any (blocks ranges) kept)
      (and_from (is_undecided k) (meet k.ranges ranges) one.0 (true_from_ne_false (meet k.ranges ranges) (λ apart. no_byte k.ranges ranges apart place two.1 own)))
  | inr later ↦ or_right (blocks ranges k) (list_any (blocks ranges) kept) (locked_blocks ranges kept place id own later)
]

-- a vote's ranges, where no record blocks them
pub free_of_records : (ranges : List Range) (kept : List Kept) (locks : List Lock) (id : TxId) → IsIndexed kept locks → list_any (blocks ranges) kept ≡ false → IsFreeFor locks id ranges
free_of_records ranges kept locks id indexed free place other own locked =
    absurd (not_both (list_any (blocks ranges) kept) (locked_blocks ranges kept place other own (sym (indexed place other) ∙ locked)) free)

-- ---- the ranges of a record are what its identifier locks

not_locked_apart : (k : Kept) (kept : List Kept) (place : ℕ) (other : TxId) → AllByRecursion (AreApart k) kept → is_undecided k ≡ true → IsIn k.ranges place
    → is_locked_by kept place other ≡ false
not_locked_apart k [] place other apart open_ own = refl
not_locked_apart k (o ∷ kept) place other apart open_ own =
    or_from (locks_there place other o) (is_locked_by kept place other)
    (false_from_ne_true (locks_there place other o) (λ here.
    let one = and_parts (is_undecided o) (is_same o.id other && list_any (covers place) o.ranges) here in
    let two = and_parts (is_same o.id other) (list_any (covers place) o.ranges) one.1 in
    apart.0 open_ one.0 place own two.1))
    (not_locked_apart k kept place other apart.1 open_ own)

one_record : (a b : Kept) → ◌≡◌ {A = Option Kept} (Some a) (Some b) → a ≡ b
one_record a b e = cc

own_places : (id : TxId) (k : Kept) (kept : List Kept) → AreAscending kept → AreAllApart kept → kept_of kept id ≡ Some k → is_undecided k ≡ true → (place : ℕ)
    → (is_locked_by kept place id ≡ true → IsIn k.ranges place)
    × ((other : TxId) → IsIn k.ranges place → is_locked_by kept place other ≡ true → other ≡ id)
own_places id k [] ascending apart found open_ place = absurd cc
own_places id k (o ∷ kept) ascending apart found open_ place =
    go (is_same o.id id) refl found (λ later. own_places id k kept ascending.1 apart.1 later open_ place)
  where
    Own : List Kept → Type 0
    Own ks = (is_locked_by ks place id ≡ true → IsIn k.ranges place) × ((other : TxId) → IsIn k.ranges place → is_locked_by ks place other ≡ true → other ≡ id)

    go : (b : Bool) → is_same o.id id ≡ b → cond b (Some o) (kept_of kept id) ≡ Some k → (kept_of kept id ≡ Some k → Own kept)
        → (is_locked_by (o ∷ kept) place id ≡ true → IsIn k.ranges place)
        × ((other : TxId) → IsIn k.ranges place → is_locked_by (o ∷ kept) place other ≡ true → other ≡ id)
    go true own e behind_ =
        let is : o ≡ k = one_record o k e in
        let later : AllByRecursion (Follows id) kept = subst (λ (x : TxId). AllByRecursion (Follows x) kept) (is_one o.id id own) ascending.0 in (
          λ locked. elim (or_cases (locks_there place id o) (is_locked_by kept place id) locked) [
            | inl here ↦ subst (λ (x : Kept). IsIn x.ranges place) is
                (and_parts (is_same o.id id) (list_any (covers place) o.ranges) (and_parts (is_undecided o) (is_same o.id id && list_any (covers place) o.ranges) here).1).1
            | inr behind ↦ absurd (not_both (is_locked_by kept place id) behind (none_after id kept place later))
          ],
          λ other mine locked. elim (or_cases (locks_there place other o) (is_locked_by kept place other) locked) [
            | inl here ↦
                sym (is_one o.id other (and_parts (is_same o.id other) (list_any (covers place) o.ranges) (and_parts (is_undecided o) (is_same o.id other && list_any (covers place) o.ranges) here).1).0)
                ∙ is_one o.id id own
            | inr behind ↦ absurd (not_both (is_locked_by kept place other) behind
                (not_locked_apart o kept place other apart.0 (subst (λ (x : Kept). is_undecided x ≡ true) (sym is) open_) (subst (λ (x : Kept). IsIn x.ranges place) (sym is) mine)))
          ],
        )
    go false own e behind_ =
        let rest = behind_ e in (
          λ locked. elim (or_cases (locks_there place id o) (is_locked_by kept place id) locked) [
            | inl here ↦ absurd (not_both (is_same o.id id)
                (and_parts (is_same o.id id) (list_any (covers place) o.ranges) (and_parts (is_undecided o) (is_same o.id id && list_any (covers place) o.ranges) here).1).0 own)
            | inr behind ↦ rest.0 behind
          ],
          λ other mine locked. elim (or_cases (locks_there place other o) (is_locked_by kept place other) locked) [
            | inl here ↦
                let one = and_parts (is_undecided o) (is_same o.id other && list_any (covers place) o.ranges) here in
                let two = and_parts (is_same o.id other) (list_any (covers place) o.ranges) one.1 in
                absurd (of_found (AreApart o) (λ (x : Kept). is_same x.id id) kept k apart.0 e one.0 open_ place two.1 mine)
            | inr behind ↦ rest.1 other mine behind
          ],
        )

-- where the record of an identifier is undecided, its ranges are what the identifier locks, and nobody else does
pub record_is_whole : (id : TxId) (kept : List Kept) (locks : List Lock) → IsIndexed kept locks → AreAscending kept → AreAllApart kept → IsKeptAs true (kept_of kept id)
    → IsFreeFor locks id (ranges_kept (kept_of kept id)) × IsWhole locks id (ranges_kept (kept_of kept id))
record_is_whole id kept locks indexed ascending apart known = go (kept_of kept id) refl known
  where
    go : (o : Option Kept) → kept_of kept id ≡ o → IsKeptAs true o → IsFreeFor locks id (ranges_kept o) × IsWhole locks id (ranges_kept o)
    go None found known = absurd known
    go (Some k) found open_ = (
      λ place other mine locked. (own_places id k kept ascending apart found open_ place).1 other mine (sym (indexed place other) ∙ locked),
      λ place locked. (own_places id k kept ascending apart found open_ place).0 (sym (indexed place id) ∙ locked),
    )
