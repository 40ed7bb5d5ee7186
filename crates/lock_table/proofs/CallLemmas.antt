-- What one more range makes of a call's locks.
use Rattle.std.proofs.Common.{◌≡◌, ◌<◌, ◌+◌, ℕ, Bool, true, false, not, ◌&&◌, ◌||◌, List, [], take, length, get_or, inl, inr, refl, sym, ap, subst, ◌∙◌}
use Rattle.std.specs.List.{list_any}
use Rattle.std.proofs.lemmas.Bool.{or_cases, or_from, and_parts, false_from_ne_true}
use Rattle.std.proofs.lemmas.List.Folds.{list_any_more, list_any_at}
use Rattle.mini_tx.specs.declared.range.Range.{Range}
use Rattle.mini_tx.specs.declared.tx_id.TxId.{TxId}
use Rattle.lock_table.specs.declared.lock.Lock.{Lock}
use Rattle.lock_table.specs.Order.{is_same}
use Rattle.lock_table.specs.Spans.{covers, span_of}
use Rattle.lock_table.specs.Locked.{is_locked, IsIn, IsFreeFor, IsSpanFreeFor, IsWhole, IsLockedBeside, IsSpanLocked, IsFreed}
use Rattle.lock_table.proofs.OrderLemmas.{is_one}
use Rattle.lock_table.proofs.CellLemmas.{IsWithout}

-- all others lock what they locked, and the holder nothing of the ranges so far
pub record IsFreedSoFar (before now : List Lock) (holder : TxId) (ranges : List Range) : Type 0 where
  pub others : (place : ℕ) (id : TxId) → is_same holder id ≡ false → is_locked now place id ≡ is_locked before place id
  pub own : (place : ℕ) → is_locked now place holder ≡ true → (is_locked before place holder ≡ true) × (list_any (covers place) ranges ≡ false)

module _ (before : List Lock) (holder : TxId) (ranges : List Range) (i : ℕ) (r d : Range) (below : i < length ranges) (is : r ≡ get_or ranges i d) where
  more : (place : ℕ) → list_any (covers place) (take (i + 1) ranges) ≡ (list_any (covers place) (take i ranges) || covers place r)
  more place = list_any_more (covers place) ranges i d below ∙ ap (λ (x : Range). list_any (covers place) (take i ranges) || covers place x) (sym is)

  here : (place : ℕ) → covers place r ≡ true → IsIn ranges place
  here place own = list_any_at (covers place) ranges i d below (subst (λ (x : Range). covers place x ≡ true) is own)

  -- ---- it is locked

  pub still_free : (now : List Lock) → IsFreeFor before holder ranges → IsLockedBeside before now holder (take i ranges) → IsSpanFreeFor now holder (span_of r)
  still_free now free beside place id own locked =
      elim (or_cases (is_locked before place id) (is_same holder id && list_any (covers place) (take i ranges)) (sym (beside place id) ∙ locked)) [
        | inl old ↦ free place id (here place own) old
        | inr new ↦ sym (is_one holder id (and_parts (is_same holder id) (list_any (covers place) (take i ranges)) new).0)
      ]

  gathered : (a h x y : Bool) → ((a || (h && x)) || (h && y)) ≡ (a || (h && (x || y)))
  gathered true h x y = refl
  gathered false true true y = refl
  gathered false true false y = refl
  gathered false false x y = refl

  pub one_locked : (now new : List Lock) → IsLockedBeside before now holder (take i ranges) → IsSpanLocked now new holder (span_of r)
      → IsLockedBeside before new holder (take (i + 1) ranges)
  one_locked now new beside one place id =
      one place id
      ∙ ap (λ (b : Bool). b || (is_same holder id && covers place r)) (beside place id)
      ∙ gathered (is_locked before place id) (is_same holder id) (list_any (covers place) (take i ranges)) (covers place r)
      ∙ ap (λ (b : Bool). is_locked before place id || (is_same holder id && b)) (sym (more place))

  -- ---- it is freed

  pub free_yet : (now : List Lock) → IsFreeFor before holder ranges → IsFreedSoFar before now holder (take i ranges) → IsSpanFreeFor now holder (span_of r)
  free_yet now free so_far place id own locked = go (is_same holder id) refl
    where
      go : (b : Bool) → is_same holder id ≡ b → id ≡ holder
      go true same = sym (is_one holder id same)
      go false other = free place id (here place own) (sym (so_far.others place id other) ∙ locked)

  pub one_freed : (now new : List Lock) → IsFreedSoFar before now holder (take i ranges) → IsWithout now new holder (span_of r)
      → IsFreedSoFar before new holder (take (i + 1) ranges)
  one_freed now new so_far one = record {
    others = λ place id other. one.others place id other ∙ so_far.others place id other;
    own = λ place locked.
        let last = one.own place locked in
        let old = so_far.own place last.0 in
        (old.0, more place ∙ or_from (list_any (covers place) (take i ranges)) (covers place r) old.1 last.1);
  }

pub all_freed : (before now : List Lock) (holder : TxId) (ranges : List Range) → IsFreedSoFar before now holder ranges → IsWhole before holder ranges → IsFreed before now holder
all_freed before now holder ranges so_far whole place id = go (is_same holder id) refl
  where
    not_both : (a : Bool) → a ≡ true → a ≡ false → ⊥
    not_both true is not_ = absurd cc
    not_both false is not_ = absurd cc

    with_not : (a b : Bool) → b ≡ false → (a && not b) ≡ a
    with_not true true e = sym e
    with_not true false e = refl
    with_not false b e = refl

    without : (a b : Bool) → b ≡ true → (a && not b) ≡ false
    without true true e = refl
    without true false e = sym e
    without false b e = refl

    go : (b : Bool) → is_same holder id ≡ b → is_locked now place id ≡ (is_locked before place id && not (is_same holder id))
    go true same =
        false_from_ne_true (is_locked now place id) (λ locked.
        let mine = so_far.own place (subst (λ (x : TxId). is_locked now place x ≡ true) (sym (is_one holder id same)) locked) in
        not_both (list_any (covers place) ranges) (whole place mine.0) mine.1)
        ∙ sym (without (is_locked before place id) (is_same holder id) same)
    go false other = so_far.others place id other ∙ sym (with_not (is_locked before place id) (is_same holder id) other)

pub none_freed : (before : List Lock) (holder : TxId) → IsFreedSoFar before before holder []
none_freed before holder = record { others = λ place id other. refl; own = λ place locked. (locked, refl) }
