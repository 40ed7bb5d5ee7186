-- What is begun, logged, granted and seen only grows, and each promise stays kept.
use Rattle.std.proofs.Common.{◌≡◌, ℕ, ◌==◌, ◌&&◌, false, cond, List, ◌∷◌, inl, inr, refl, sym, ap, ◌∙◌, subst, arith}
use Rattle.std.proofs.lemmas.Bool.{eq-eqb, ne_eqb, and_left, and_right, cases_eq}
use Rattle.tx_rules.specs.Mini.{In, Memory, Setting, reads_of}
use Rattle.tx_rules.specs.Decision.{Reason, Forced, Held, Locked, Mismatch, Record, Grant, Refuse, Commit, Abort, Forget, Entry, At, IsGranted, IsCast, IsPassed, IsBelow, IsRefused, IsDecided, IsCommitted, IsAborted, IsThrough, IsOver}
use Rattle.tx_rules.specs.World.{Message, Prepare, Granted, Looked, Refused, DecideCommit, DecideAbort, Done, Forgotten, ListKept, Kept, Ask, AnswerOk, AnswerAbort, World, IsForced, IsFounded, Stands, Promises, MayGrant, Event, Begins, Grants, Completes, Refuses, Commits, Aborts, Forgets, Posts, May, with_sight, after}

-- one world has all that the other has, and grants nothing that was passed
pub record Grows (s : Setting) (w v : World) : Type 0 where
  pub begun : (t : ℕ) → In t w.begun → In t v.begun
  pub log : (e : Entry) → In e w.log → In e v.log
  pub kept : (m t : ℕ) → IsPassed s w.log m t → IsGranted v.log m t → IsGranted w.log m t
  pub seen : (m t : ℕ) → IsGranted w.log m t → v.seen t m ≡ w.seen t m

-- ---- entries

-- equal entries are of one memory node and one record
pub one_node : (m n : ℕ) (r q : Record) → At m r ≡ At n q → m ≡ n
one_node m n r q e = cc

pub one_record : (m n : ℕ) (r q : Record) → At m r ≡ At n q → r ≡ q
one_record m n r q e = cc

-- equal grants are of one identifier
pub one_grant : (t u : ℕ) → Grant t ≡ Grant u → t ≡ u
one_grant t u e = cc

-- a granted identifier is passed
pub granted_passed : (s : Setting) (log : List Entry) (m t : ℕ) → IsGranted log m t → IsPassed s log m t
granted_passed s log m t h = record { by = t; cast = inl h; same = refl; above = omega arith }

-- what was seen where something else is granted
pub other_sight : (w : World) (m t u n : ℕ) → ((u ≡ t) → (n ≡ m) → ⊥) → with_sight w m t u n ≡ w.seen u n
other_sight w m t u n other =
    let is : ((u == t) && (n == m)) ≡ false = elim (cases_eq u t) [
      | inl same ↦ and_right (u == t) (n == m) (ne_eqb n m (other same))
      | inr not_same ↦ and_left (u == t) (n == m) (ne_eqb u t not_same)
    ] in ap (λ b. cond b (w.image n) (w.seen u n)) is

-- what was seen where it is granted
pub own_sight : (w : World) (m t : ℕ) → with_sight w m t t m ≡ w.image m
own_sight w m t = ap (λ b. cond b (w.image m) (w.seen t m)) (ap (λ b. b && (m == m)) (eq-eqb t t refl) ∙ eq-eqb m m refl)

-- ---- what stays

module _ (s : Setting) (w v : World) (g : Grows s w v) where
  pub cast_grows : (m t : ℕ) → IsCast w.log m t → IsCast v.log m t
  cast_grows m t c = elim c [ inl h ↦ inl (g.log (At m (Grant t)) h) | inr h ↦ inr (h.0, g.log (At m (Refuse t h.0)) h.1) ]

  pub below_grows : (m t floor : ℕ) → IsBelow s w.log m t floor → IsBelow s v.log m t floor
  below_grows m t floor b = record { cast = cast_grows m floor b.cast; same = b.same; above = b.above }

  pub passed_grows : (m t : ℕ) → IsPassed s w.log m t → IsPassed s v.log m t
  passed_grows m t p =
      record { by = p.by; cast = cast_grows m p.by p.cast; same = p.same; above = p.above }

  pub refused_grows : (m t : ℕ) → IsRefused s w.log m t → IsRefused s v.log m t
  refused_grows m t r = record { passed = passed_grows m t r.passed; never = λ h. r.never (g.kept m t r.passed h) }

  pub decided_grows : (m t : ℕ) → IsDecided w.log m t → IsDecided v.log m t
  decided_grows m t d = elim d [ inl h ↦ inl (g.log (At m (Commit t)) h) | inr h ↦ inr (g.log (At m (Abort t)) h) ]

  pub committed_grows : (t : ℕ) → IsCommitted s w.log t → IsCommitted s v.log t
  committed_grows t c m h = g.log (At m (Grant t)) (c m h)

  pub aborted_grows : (t : ℕ) → IsAborted s w.log t → IsAborted s v.log t
  aborted_grows t a = record { node = a.node; participant = a.participant; refused = refused_grows a.node t a.refused }

  pub through_grows : (m t : ℕ) → IsThrough s w.log m t → IsThrough s v.log m t
  through_grows m t h = elim h [ inl d ↦ inl (decided_grows m t d) | inr r ↦ inr (refused_grows m t r) ]

  pub over_grows : (t : ℕ) → IsOver s w.log t → IsOver s v.log t
  over_grows t o m h = through_grows m t (o m h)

  -- what a refusal stands on stays
  forced_grows : (m t : ℕ) (why : Reason) → IsForced s w m t why → IsForced s v m t why
  forced_grows m t (Forced floor) h = below_grows m t floor h
  forced_grows m t (Held cut) h = h
  forced_grows m t (Locked holder) h = h
  forced_grows m t (Mismatch item) h = h

  pub founded_grows : (m t : ℕ) (why : Reason) → IsFounded s w m t why → IsFounded s v m t why
  founded_grows m t why h = elim h [
    | inl r ↦ inl (g.log (At m (Refuse t why)) r.0, refused_grows m t r.1)
    | inr (inl f) ↦ inr (inl (forced_grows m t why f))
    | inr (inr r) ↦ inr (inr r)
  ]

  -- an entry keeps its promise
  pub stands_grow : (m : ℕ) (r : Record) → Stands s w m r → Stands s v m r
  stands_grow m (Grant t) h = h
  stands_grow m (Refuse t why) h = tt
  stands_grow m (Commit t) h = (g.log (At m (Grant t)) h.0, committed_grows t h.1)
  stands_grow m (Abort t) h = (g.log (At m (Grant t)) h.0, aborted_grows t h.1)
  stands_grow m (Forget t) h = (decided_grows m t h.0, over_grows t h.1)

  -- a message keeps its promise
  pub promises_grow : (p : Message) → Promises s w p → Promises s v p
  promises_grow (Prepare t) h = (g.begun t h.0, h.1)
  promises_grow (Granted m t bytes) h =
      (g.begun t h.0, h.1, g.log (At m (Grant t)) h.2, h.3 ∙ ap (reads_of s t m) (sym (g.seen m t h.2)))
  promises_grow (Looked m t bytes) h = (g.begun t h.0, h.1, h.2, h.3)
  promises_grow (Refused m t why) h = (g.begun t h.0, h.1, founded_grows m t why h.2)
  promises_grow (DecideCommit t) h = (g.begun t h.0, λ live. ((h.1 live).0, committed_grows t (h.1 live).1))
  promises_grow (DecideAbort t) h = (
    g.begun t h.0,
    λ live. (
      (h.1 live).0,
      elim (h.1 live).1 [
        | inl a ↦ inl (aborted_grows t a)
        | inr o ↦ inr (over_grows t o)
      ],
    ),
  )
  promises_grow (Done m t) h = (g.begun t h.0, λ live. through_grows m t (h.1 live))
  promises_grow (Forgotten t) h = (g.begun t h.0, λ live. over_grows t (h.1 live))
  promises_grow ListKept h = tt
  promises_grow (Kept m xs) h = λ x is. (g.begun x.0 (h x is).0, (h x is).1)
  promises_grow (Ask t) h = (g.begun t h.0, h.1)
  promises_grow (AnswerOk m t) h = (g.begun t h.0, λ live. g.log (At m (Grant t)) (h.1 live))
  promises_grow (AnswerAbort m t) h = (
    g.begun t h.0,
    λ live. elim (h.1 live) [
      | inl r ↦ inl (refused_grows m t r)
      | inr o ↦ inr (over_grows t o)
    ],
  )

-- ---- every event lets the world grow

module _ (s : Setting) (w : World) where
  -- a world that has what it had and one entry more, which is no grant
  pub grows_entry : (m : ℕ) (r : Record) (image : Memory) → ((t : ℕ) → ¬ (r ≡ Grant t)) → Grows s w (record w { log = At m r ∷ w.log; image = image })
  grows_entry m r image plain = record {
    begun = λ t h. h;
    log = λ e h. inr h;
    kept = λ n t p h. elim h [ inl is ↦ absurd (plain t (sym (one_record n m (Grant t) r is))) | inr old ↦ old ];
    seen = λ n t h. refl;
  }

  -- a grant of what was not passed
  pub grows_grant : (m t : ℕ) (points : List ℕ) → MayGrant s w m t
      → Grows s w (record w { log = At m (Grant t) ∷ w.log; points = points; seen = with_sight w m t })
  grows_grant m t points may = record {
    begun = λ t h. h;
    log = λ e h. inr h;
    kept = λ n u p h. elim h [
      | inl is ↦ absurd (may.above (passed n u (one_node n m (Grant u) (Grant t) is) (one_grant u t (one_record n m (Grant u) (Grant t) is)) p))
      | inr old ↦ old
    ];
    seen = λ n u h. other_sight w m t u n (λ same here. may.above (passed n u here same (granted_passed s w.log n u h)));
  }
    where
      passed : (n u : ℕ) → n ≡ m → u ≡ t → IsPassed s w.log n u → IsPassed s w.log m t
      passed n u a b p = subst (λ x. IsPassed s w.log x t) a (subst (λ y. IsPassed s w.log n y) b p)

  pub grows : (e : Event) → May s w e → Grows s w (after s w e)
  grows (Begins t) may = record { begun = λ u h. inr h; log = λ e h. h; kept = λ m u p h. h; seen = λ m u h. refl }
  grows (Grants m t) may = grows_grant m t w.points may.0
  grows (Completes m t) may = grows_grant m t (t ∷ w.points) may.0
  grows (Refuses m t why) may = grows_entry m (Refuse t why) w.image (λ u e. absurd cc)
  grows (Commits m t) may = grows_entry m (Commit t) _ (λ u e. absurd cc)
  grows (Aborts m t) may = grows_entry m (Abort t) w.image (λ u e. absurd cc)
  grows (Forgets m t) may = grows_entry m (Forget t) w.image (λ u e. absurd cc)
  grows (Posts p) may = record { begun = λ u h. h; log = λ e h. h; kept = λ m u p h. h; seen = λ m u h. refl }
