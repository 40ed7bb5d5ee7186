-- What taking out the locks of a span makes of the places, and what putting the span in makes of them.
use Rattle.std.proofs.Common.{◌≡◌, ◌<◌, ◌≤◌, ◌+◌, ℕ, Bool, true, false, cond, ◌&&◌, ◌||◌, List, [], ◌∷◌, ◌++◌, Result, Ok, Err, refl, sym, ap, subst, ◌∙◌, arith}
use Rattle.std.specs.List.{insert}
use Rattle.std.specs.Result.{IsOk, is_ok}
use Rattle.mini_tx.specs.declared.range.Range.{Range}
use Rattle.mini_tx.specs.declared.tx_id.TxId.{TxId}
use Rattle.lock_table.specs.declared.lock.Lock.{Lock}
use Rattle.lock_table.specs.declared.span.Span.{Span}
use Rattle.lock_table.specs.Order.{is_same}
use Rattle.lock_table.specs.Spans.{span_of}
use Rattle.lock_table.specs.Locked.{is_locked, IsLine, IsSpanFreeFor, IsSpanLocked, IsLockedBeside, IsTakenOut}
use Rattle.lock_table.proofs.CellLemmas.{IsWithout, own_between, span_locked, span_without}
use Rattle.lock_table.proofs.LineLemmas.{whole, line_with}
use Rattle.lock_table.proofs.PartLemmas.{inserted_at}

pub when_ok : {X E : Type 0} (result : Result X E) → IsOk result → (a b : List Lock) → cond (is_ok result) a b ≡ a
when_ok (Ok x) ok a b = refl
when_ok (Err e) ok a b = absurd cc

pub some_places : (s : Span) (r : Range) → s ≡ span_of r → 1 ≤ r.length → s.at < s.end
some_places s r is some = subst (λ (x : Span). x.at < x.end) (sym is) (let e : r.at < r.at + r.length = omega (arith, some) in e)

pub put_in : (before between new : List Lock) (s : Span) (at : ℕ) (h : Span) (holder : TxId) → s.at < s.end → IsLine before → IsSpanFreeFor before holder s
    → IsTakenOut before between s at h → new ≡ insert between at (record { holder = holder; span = h }) → IsLine new × IsSpanLocked before new holder s
put_in before between new s at h holder some line free taken e =
    let w = taken.window in
    let lock : Span → Lock = λ (x : Span). record { holder = holder; span = x } in
    let is : new ≡ w.front ++ whole s holder w.middle ∷ w.rest = e
    ∙ ap (λ (m : List Lock). insert m at (lock h)) taken.left
    ∙ ap (λ (n : ℕ). insert (w.front ++ w.rest) n (lock h)) w.begins
    ∙ inserted_at w.front w.rest (lock h)
    ∙ ap (λ (x : Span). w.front ++ lock x ∷ w.rest) taken.spans in
    let lined = subst IsLine w.is line in
    let own = own_between s holder w.front w.middle w.rest some lined w.meet (subst (λ (b : List Lock). IsSpanFreeFor b holder s) w.is free) in (
      subst IsLine (sym is) (line_with s holder w.front w.middle w.rest some lined w.before w.behind),
      subst (λ (n : List Lock). IsSpanLocked before n holder s) (sym is)
          (subst (λ (b : List Lock). IsSpanLocked b (w.front ++ whole s holder w.middle ∷ w.rest) holder s) (sym w.is) (span_locked s holder w.front w.middle w.rest w.meet own)),
    )

pub left_without : (before now : List Lock) (s : Span) (at : ℕ) (h : Span) (holder : TxId) → s.at < s.end → IsLine before → IsSpanFreeFor before holder s
    → IsTakenOut before now s at h → IsWithout before now holder s
left_without before now s at h holder some line free taken =
    let w = taken.window in
    let lined = subst IsLine w.is line in
    let own = own_between s holder w.front w.middle w.rest some lined w.meet (subst (λ (b : List Lock). IsSpanFreeFor b holder s) w.is free) in
    subst (λ (n : List Lock). IsWithout before n holder s) (sym taken.left)
    (subst (λ (b : List Lock). IsWithout b (w.front ++ w.rest) holder s) (sym w.is) (span_without s holder w.front w.middle w.rest w.before w.behind own))

pub none_locked : (before : List Lock) (holder : TxId) → IsLockedBeside before before holder []
none_locked before holder place id = go (is_locked before place id) (is_same holder id)
  where
    go : (a b : Bool) → a ≡ (a || (b && false))
    go true b = refl
    go false true = refl
    go false false = refl
