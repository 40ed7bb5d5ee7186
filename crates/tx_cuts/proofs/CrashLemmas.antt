-- What a memory node may append, it may still append after events elsewhere.
use Rattle.std.proofs.Common.{◌≡◌, ℕ, ◌≤◌, Bool, true, false, cond, List, [], ◌∷◌, unwrap_or, inl, inr, refl, sym, ap, ◌∙◌, subst}
use Rattle.std.proofs.lemmas.Bool.{ne_eqb, eq-eqb}
use Rattle.tx_rules.specs.Mini.{In, Setting, nodes_of, Matches, IsMismatch, with_writes}
use Rattle.tx_rules.specs.Decision.{Reason, Forced, Held, Locked, Mismatch, Record, Grant, Refuse, Commit, Abort, Forget, Entry, At, IsGranted, IsCast, IsPassed, IsOpen}
use Rattle.tx_rules.specs.World.{Message, DecideAbort, Ask, World, HasReason, MayGrant, Event, Begins, Grants, Completes, Refuses, Commits, Aborts, Forgets, Posts, May, with_sight, after, IsRun, after_all}
use Rattle.tx_rules.proofs.GrowthLemmas.{Grows, one_node, one_record, one_grant, granted_passed, other_sight, own_sight, below_grows, committed_grows, aborted_grows, over_grows, decided_grows, grows}
use Rattle.tx_rules.proofs.SoundLemmas.{grows_trans, grows_all}
use Rattle.tx_actors.specs.Machine.{all_granted, event_of, appending}
use Rattle.tx_actors.proofs.TestLemmas.{not_two}
use Rattle.tx_actors.proofs.NodeLemmas.{run_append, all_granted-is, is-all_granted}
use Rattle.tx_actors.specs.Node.{IsElsewhere, AllElsewhere}
use Rattle.tx_cuts.specs.Laws.{RecordsMayWait, appending_all, CrashImagesAreReached}

-- a later world in which the memory node has done nothing
pub record IsSameAt (s : Setting) (m : ℕ) (w v : World) : Type 0 where
  pub grows : Grows s w v
  pub here : (r : Record) → In (At m r) v.log → In (At m r) w.log
  pub posted : (p : Message) → In p w.posted → In p v.posted
  pub image : v.image m ≡ w.image m

module _ (s : Setting) (m : ℕ) (w v : World) (h : IsSameAt s m w v) where
  passed_here : (t : ℕ) → IsPassed s v.log m t → IsPassed s w.log m t
  passed_here t p = record {
    by = p.by;
    cast = elim p.cast [ inl g ↦ inl (h.here (Grant p.by) g) | inr r ↦ inr (r.0, h.here (Refuse p.by r.0) r.1) ];
    same = p.same;
    above = p.above;
  }

  open_here : (t : ℕ) → IsOpen w.log m t → IsOpen v.log m t
  open_here t o = record {
    granted = h.grows.log (At m (Grant t)) o.granted;
    undecided = λ d. o.undecided (elim d [ inl c ↦ inl (h.here (Commit t) c) | inr a ↦ inr (h.here (Abort t) a) ]);
  }

  open_there : (t : ℕ) → IsOpen v.log m t → IsOpen w.log m t
  open_there t o = record { granted = h.here (Grant t) o.granted; undecided = λ d. o.undecided (decided_grows s w v h.grows m t d) }

  grant_waits : (t : ℕ) → MayGrant s w m t → MayGrant s v m t
  grant_waits t may = record {
    begun = h.grows.begun t may.begun;
    fresh = may.fresh;
    participant = may.participant;
    logged = may.logged;
    above = λ p. may.above (passed_here t p);
    unlocked = λ u o. may.unlocked u (open_there u o);
    matching = subst (Matches s t m) (sym h.image) may.matching;
  }

  -- why a vote is refused still holds
  reason_waits : (t : ℕ) (why : Reason) → HasReason s w m t why → HasReason s v m t why
  reason_waits t (Forced floor) r = elim r [
    | inl below ↦ inl (below_grows s w v h.grows m t floor below)
    | inr off ↦ inr (off.0, elim off.1 [ inl asked ↦ inl (h.posted (Ask t) asked) | inr decided ↦ inr (h.posted (DecideAbort t) decided) ])
  ]
  reason_waits t (Held cut) r = tt
  reason_waits t (Locked holder) r = record { undecided = open_here holder r.undecided; cell = r.cell; asked = r.asked; locked = r.locked }
  reason_waits t (Mismatch item) r = (λ u o. r.0 u (open_there u o), subst (λ (f : ℕ → ℕ). IsMismatch s t m f item) (sym h.image) r.1)

  -- the same record may be appended
  record_waits : (r : Record) → May s w (event_of s w m r) → May s v (event_of s v m r)
  record_waits (Grant t) may = now (all_granted (At m (Grant t) ∷ v.log) t (nodes_of s t)) refl
    where
      granting : (b : Bool) → May s w (cond b (Completes m t) (Grants m t)) → MayGrant s w m t
      granting true x = x.0
      granting false x = x.0

      now : (b : Bool) → all_granted (At m (Grant t) ∷ v.log) t (nodes_of s t) ≡ b → May s v (cond b (Completes m t) (Grants m t))
      now true is = (grant_waits t (granting _ may), all_granted-is (At m (Grant t) ∷ v.log) t (nodes_of s t) is)
      now false is = (
        grant_waits t (granting _ may),
        λ c.
            not_two (all_granted (At m (Grant t) ∷ v.log) t (nodes_of s t)) (is-all_granted (At m (Grant t) ∷ v.log) t (nodes_of s t) c) is,
      )
  record_waits (Refuse t why) may = (h.grows.begun t may.0, λ p. may.1 (passed_here t p), reason_waits t why may.2)
  record_waits (Commit t) may = (may.0, open_here t may.1, committed_grows s w v h.grows t may.2)
  record_waits (Abort t) may = (may.0, open_here t may.1, aborted_grows s w v h.grows t may.2)
  record_waits (Forget t) may = (h.grows.begun t may.0, λ live. (decided_grows s w v h.grows m t (may.1 live).0, over_grows s w v h.grows t (may.1 live).1))

-- ---- the same record appended to both

-- the world after a record
abbrev pub with_record : Setting → World → ℕ → Record → World
with_record s w m r = after s w (event_of s w m r)

-- what a record adds
module _ (s : Setting) (w : World) (m : ℕ) where
  with_grant : (t : ℕ) (P : World → Type 0)
      → ((points : List ℕ) → P (record w { log = At m (Grant t) ∷ w.log; points = points; seen = with_sight w m t })) → P (with_record s w m (Grant t))
  with_grant t P all = go (all_granted (At m (Grant t) ∷ w.log) t (nodes_of s t))
    where
      go : (b : Bool) → P (after s w (cond b (Completes m t) (Grants m t)))
      go true = all (t ∷ w.points)
      go false = all w.points

  pub record_log : (r : Record) → (with_record s w m r).log ≡ At m r ∷ w.log
  record_log (Grant t) = with_grant t (λ v. v.log ≡ At m (Grant t) ∷ w.log) (λ points. refl)
  record_log (Refuse t why) = refl
  record_log (Commit t) = refl
  record_log (Abort t) = refl
  record_log (Forget t) = refl

  pub record_begun : (r : Record) → (with_record s w m r).begun ≡ w.begun
  record_begun (Grant t) = with_grant t (λ v. v.begun ≡ w.begun) (λ points. refl)
  record_begun (Refuse t why) = refl
  record_begun (Commit t) = refl
  record_begun (Abort t) = refl
  record_begun (Forget t) = refl

  pub record_posted : (r : Record) → (with_record s w m r).posted ≡ w.posted
  record_posted (Grant t) = with_grant t (λ v. v.posted ≡ w.posted) (λ points. refl)
  record_posted (Refuse t why) = refl
  record_posted (Commit t) = refl
  record_posted (Abort t) = refl
  record_posted (Forget t) = refl

  -- what was seen is changed by a grant alone
  record_seen_own : (r : Record) (u n : ℕ) → At n (Grant u) ≡ At m r → (with_record s w m r).seen u n ≡ w.image m
  record_seen_own (Grant t) u n e =
      let same = one_grant u t (one_record n m (Grant u) (Grant t) e) in
      let here = one_node n m (Grant u) (Grant t) e in
      with_grant t (λ v. v.seen u n ≡ w.image m) (λ points.
      subst (λ x. with_sight w m t x n ≡ w.image m) (sym same) (subst (λ x. with_sight w m t t x ≡ w.image m) (sym here) (own_sight w m t)))
  record_seen_own (Refuse t why) u n e = absurd (let x = one_record n m (Grant u) (Refuse t why) e in cc)
  record_seen_own (Commit t) u n e = absurd (let x = one_record n m (Grant u) (Commit t) e in cc)
  record_seen_own (Abort t) u n e = absurd (let x = one_record n m (Grant u) (Abort t) e in cc)
  record_seen_own (Forget t) u n e = absurd (let x = one_record n m (Grant u) (Forget t) e in cc)

  record_seen_other : (r : Record) (u n : ℕ) → ¬ (At n (Grant u) ≡ At m r) → (with_record s w m r).seen u n ≡ w.seen u n
  record_seen_other (Grant t) u n other = with_grant t (λ v. v.seen u n ≡ w.seen u n) (λ points.
      other_sight w m t u n (λ same here. other (ap (λ x. At x (Grant u)) here ∙ ap (λ x. At m (Grant x)) same)))
  record_seen_other (Refuse t why) u n other = refl
  record_seen_other (Commit t) u n other = refl
  record_seen_other (Abort t) u n other = refl
  record_seen_other (Forget t) u n other = refl

  -- a grant that may be appended is not passed
  may_above : (r : Record) (u : ℕ) → May s w (event_of s w m r) → r ≡ Grant u → ¬ IsPassed s w.log m u
  may_above (Grant t) u may e = subst (λ x. ¬ IsPassed s w.log m x) (one_grant t u e) (go _ may)
    where
      go : (b : Bool) → May s w (cond b (Completes m t) (Grants m t)) → ¬ IsPassed s w.log m t
      go true x = x.0.above
      go false x = x.0.above
  may_above (Refuse t why) u may e = absurd cc
  may_above (Commit t) u may e = absurd cc
  may_above (Abort t) u may e = absurd cc
  may_above (Forget t) u may e = absurd cc

-- the image after a record depends on the image before
record_image : (s : Setting) (w v : World) (m : ℕ) (r : Record) → v.image m ≡ w.image m → (with_record s v m r).image m ≡ (with_record s w m r).image m
record_image s w v m (Grant t) same = with_grant s v m t (λ x. x.image m ≡ (with_record s w m (Grant t)).image m) (λ points.
    with_grant s w m t (λ y. v.image m ≡ y.image m) (λ more. same))
record_image s w v m (Refuse t why) same = same
record_image s w v m (Commit t) same =
    ap (λ (b : Bool). cond b (with_writes s t v.image m) (v.image m)) (eq-eqb m m refl)
    ∙ ap {B = ℕ → ℕ} (λ (f : ℕ → ℕ). λ (a : ℕ). unwrap_or ((s.mini t).writes m a) (f a)) same
    ∙ sym (ap (λ (b : Bool). cond b (with_writes s t w.image m) (w.image m)) (eq-eqb m m refl))
record_image s w v m (Abort t) same = same
record_image s w v m (Forget t) same = same

module _ (s : Setting) (m : ℕ) (w v : World) (h : IsSameAt s m w v) (r : Record) (may : May s w (event_of s w m r)) where
  in_w : (e : Entry) → In e (with_record s w m r).log → In e (At m r ∷ w.log)
  in_w e k = subst (In e) (record_log s w m r) k

  w_in : (e : Entry) → In e (At m r ∷ w.log) → In e (with_record s w m r).log
  w_in e k = subst (In e) (sym (record_log s w m r)) k

  in_v : (e : Entry) → In e (with_record s v m r).log → In e (At m r ∷ v.log)
  in_v e k = subst (In e) (record_log s v m r) k

  -- what was granted in the later world and passed in the earlier one was granted in the earlier one
  kept_here : (n t u : ℕ) → IsCast (At m r ∷ w.log) n u → s.coord u ≡ s.coord t → t ≤ u
      → IsGranted v.log n t → IsGranted w.log n t
  kept_here n t u cast same above g = elim cast [
    | inl (inl e) ↦ at_m (one_node n m (Grant u) r e)
    | inl (inr old) ↦ h.grows.kept n t (record { by = u; cast = inl old; same = same; above = above }) g
    | inr (why, inl e) ↦ at_m (one_node n m (Refuse u why) r e)
    | inr (why, inr old) ↦ h.grows.kept n t (record { by = u; cast = inr (why, old); same = same; above = above }) g
  ]
    where
      at_m : n ≡ m → IsGranted w.log n t
      at_m e = subst (λ x. IsGranted w.log x t) (sym e) (h.here (Grant t) (subst (λ x. IsGranted v.log x t) e g))

  seen_same : (n u : ℕ) → In (At n (Grant u)) (At m r ∷ w.log) → (with_record s v m r).seen u n ≡ (with_record s w m r).seen u n
  seen_same n u k = elim k [
    | inl e ↦ record_seen_own s v m r u n e ∙ h.image ∙ sym (record_seen_own s w m r u n e)
    | inr old ↦
        let other : ¬ (At n (Grant u) ≡ At m r) = (λ e. may_above s w m r u may (sym (one_record n m (Grant u) r e))
        (granted_passed s w.log m u (subst (λ x. IsGranted w.log x u) (one_node n m (Grant u) r e) old))) in
        record_seen_other s v m r u n other ∙ h.grows.seen n u old ∙ sym (record_seen_other s w m r u n other)
  ]

  same_step : IsSameAt s m (with_record s w m r) (with_record s v m r)
  same_step = record {
    grows = record {
      begun = λ t k. subst (In t) (sym (record_begun s v m r)) (h.grows.begun t (subst (In t) (record_begun s w m r) k));
      log = λ e k. subst (In e) (sym (record_log s v m r)) (elim (in_w e k) [ inl is ↦ inl is | inr old ↦ inr (h.grows.log e old) ]);
      kept = λ n t p g. w_in (At n (Grant t)) (elim (in_v (At n (Grant t)) g) [
        | inl is ↦ inl is
        | inr old ↦ inr (kept_here n t p.by (elim p.cast [ inl c ↦ inl (in_w (At n (Grant p.by)) c) | inr c ↦ inr (c.0, in_w (At n (Refuse p.by c.0)) c.1) ]) p.same p.above old)
      ]);
      seen = λ n u k. seen_same n u (in_w (At n (Grant u)) k);
    };
    here = λ q k. w_in (At m q) (elim (in_v (At m q) k) [ inl is ↦ inl is | inr old ↦ inr (h.here q old) ]);
    posted = λ p k. subst (In p) (sym (record_posted s v m r)) (h.posted p (subst (In p) (record_posted s w m r) k));
    image = record_image s w v m r h.image;
  }

run_waits : (s : Setting) (m : ℕ) (w v : World) (rs : List Record) → IsSameAt s m w v → IsRun s w (appending s w m rs) → IsRun s v (appending s v m rs)
run_waits s m w v [] h run = tt
run_waits s m w v (r ∷ rs) h run =
    (record_waits s m w v h r run.0, run_waits s m (with_record s w m r) (with_record s v m r) rs (same_step s m w v h r run.0) run.1)

-- ---- events elsewhere

-- an entry of another memory node is not this one's
not_here : (m n : ℕ) (q r : Record) (log : List Entry) → ¬ (n ≡ m) → In (At m q) (At n r ∷ log) → In (At m q) log
not_here m n q r log other h = elim h [ inl e ↦ absurd (other (sym (one_node m n q r e))) | inr before ↦ before ]

same_after : (s : Setting) (m : ℕ) (w : World) (e : Event) → May s w e → IsElsewhere m e → IsSameAt s m w (after s w e)
same_after s m w (Begins t) may away = record { grows = grows s w (Begins t) may; here = λ r h. h; posted = λ p h. h; image = refl }
same_after s m w (Posts p) may away = record { grows = grows s w (Posts p) may; here = λ r h. h; posted = λ q h. inr h; image = refl }
same_after s m w (Grants n t) may away = record { grows = grows s w (Grants n t) may; here = λ r h. not_here m n r (Grant t) w.log away h; posted = λ p h. h; image = refl }
same_after s m w (Completes n t) may away = record { grows = grows s w (Completes n t) may; here = λ r h. not_here m n r (Grant t) w.log away h; posted = λ p h. h; image = refl }
same_after s m w (Refuses n t why) may away = record { grows = grows s w (Refuses n t why) may; here = λ r h. not_here m n r (Refuse t why) w.log away h; posted = λ p h. h; image = refl }
same_after s m w (Commits n t) may away = record {
  grows = grows s w (Commits n t) may;
  here = λ r h. not_here m n r (Commit t) w.log away h;
  posted = λ p h. h;
  image = ap (λ (b : Bool). cond b (with_writes s t w.image m) (w.image m)) (ne_eqb m n (λ e. away (sym e)));
}
same_after s m w (Aborts n t) may away = record { grows = grows s w (Aborts n t) may; here = λ r h. not_here m n r (Abort t) w.log away h; posted = λ p h. h; image = refl }
same_after s m w (Forgets n t) may away = record { grows = grows s w (Forgets n t) may; here = λ r h. not_here m n r (Forget t) w.log away h; posted = λ p h. h; image = refl }

same_trans : (s : Setting) (m : ℕ) (u v w : World) → IsSameAt s m u v → IsSameAt s m v w → IsSameAt s m u w
same_trans s m u v w g h = record { grows = grows_trans s u v w g.grows h.grows; here = λ r k. g.here r (h.here r k); posted = λ p k. h.posted p (g.posted p k); image = h.image ∙ g.image }

same_all : (s : Setting) (m : ℕ) (w : World) (events : List Event) → IsRun s w events → AllElsewhere m events → IsSameAt s m w (after_all s w events)
same_all s m w [] run away = record { grows = grows_all s w [] tt; here = λ r h. h; posted = λ p h. h; image = refl }
same_all s m w (e ∷ events) run away =
    same_trans s m w (after s w e) (after_all s (after s w e) events) (same_after s m w e run.0 away.0) (same_all s m (after s w e) events run.1 away.1)

pub records_may_wait : RecordsMayWait
records_may_wait s w m rs events first run away = run_waits s m w (after_all s w events) rs (same_all s m w events run away) first

-- ---- several memory nodes

event_elsewhere : (s : Setting) (w : World) (m n : ℕ) (r : Record) → ¬ (n ≡ m) → IsElsewhere m (event_of s w n r)
event_elsewhere s w m n (Grant t) other = go (all_granted (At n (Grant t) ∷ w.log) t (nodes_of s t))
  where
    go : (b : Bool) → IsElsewhere m (cond b (Completes n t) (Grants n t))
    go true = other
    go false = other
event_elsewhere s w m n (Refuse t why) other = other
event_elsewhere s w m n (Commit t) other = other
event_elsewhere s w m n (Abort t) other = other
event_elsewhere s w m n (Forget t) other = other

pub appending_elsewhere : (s : Setting) (w : World) (m n : ℕ) (rs : List Record) → ¬ (n ≡ m) → AllElsewhere m (appending s w n rs)
appending_elsewhere s w m n [] other = tt
appending_elsewhere s w m n (r ∷ rs) other = (event_elsewhere s w m n r other, appending_elsewhere s (with_record s w n r) m n rs other)

pub crash_images_are_reached : CrashImagesAreReached
crash_images_are_reached s w [] distinct all = tt
crash_images_are_reached s w (x ∷ rest) distinct all =
    let first = all x (inl refl) in
    let v = after_all s w (appending s w x.0 x.1) in
    run_append s w (appending s w x.0 x.1) (appending_all s v rest) first
    (crash_images_are_reached s v rest distinct.1 (λ y is.
    records_may_wait s w y.0 y.1 (appending s w x.0 x.1) (all y (inr is)) first
    (appending_elsewhere s w y.0 x.0 x.1 (λ e. distinct.0 y is (sym e)))))
