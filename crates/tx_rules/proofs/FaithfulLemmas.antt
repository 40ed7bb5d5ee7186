-- What holds of identifiers, entries, messages and points between any two events.
use Rattle.std.proofs.Common.{◌≡◌, ℕ, List, [], ◌∷◌, ◌++◌, ◌⊎◌, inl, inr, refl, sym, ap, subst, arith}
use Rattle.std.proofs.lemmas.Bool.{cases_eq}
use Rattle.tx_rules.specs.Mini.{In, Memory, IsMini, Setting, IsLive, IsFresh}
use Rattle.tx_rules.specs.Decision.{Reason, Forced, Held, Locked, Mismatch, Record, Grant, Refuse, Commit, Abort, Forget, Entry, At, named_in, IsGranted, IsCast, IsPassed, IsRefused, IsOpen, IsCommitted, IsAborted}
use Rattle.tx_rules.specs.World.{Message, World, IsOutdated, IsForced, IsNew, Stands, Promises, MayGrant, Event, Begins, Grants, Completes, Refuses, Commits, Aborts, Forgets, Posts, May, with_sight, after, opened}
use Rattle.tx_rules.specs.Opening.{HasPoint, IsOpening}
use Rattle.tx_rules.specs.Laws.{IsDistinct, IsPoint}
use Rattle.tx_rules.proofs.GrowthLemmas.{Grows, one_node, one_record, one_grant, granted_passed, refused_grows, committed_grows, stands_grow, promises_grow, grows_entry, grows_grant, grows}

pub record IsFaithful (s : Setting) (w : World) : Type 0 where
  pub old : (t : ℕ) → In t s.old → In t w.begun
  pub found : (t : ℕ) → In t s.found → In t w.begun × IsLive s t
  pub early : (t : ℕ) → In t s.early → In t s.found × IsCommitted s w.log t
  pub known : (m : ℕ) (r : Record) → In (At m r) w.log → In (named_in r) w.begun
  pub closed : (m t : ℕ) → In t s.old → ¬ IsOpen w.log m t
  pub minis : (t : ℕ) → In t w.begun → IsLive s t → IsMini (s.mini t)
  pub stands : (m : ℕ) (r : Record) → In (At m r) w.log → IsLive s (named_in r) → Stands s w m r
  pub refused : (m t : ℕ) (why : Reason) → In (At m (Refuse t why)) w.log → IsFresh s t → IsRefused s w.log m t
  pub promises : (p : Message) → In p w.posted → Promises s w p
  pub points : (t : ℕ) → In t w.points → IsPoint s w t
  pub committed : (t : ℕ) → In t w.begun → IsLive s t → IsCommitted s w.log t → HasPoint s w.points t
  pub distinct : IsDistinct w.points

-- a floor above an identifier is a newer one that was begun
pub outdated : (s : Setting) (w : World) → IsFaithful s w → (m t : ℕ) (why : Reason) → IsForced s w m t why → IsOutdated s w t
outdated s w f m t (Forced floor) b = record { newer = floor; begun = begun b.cast; same = b.same; above = b.above }
  where
    begun : IsCast w.log m floor → In floor w.begun
    begun c = elim c [ inl g ↦ f.known m (Grant floor) g | inr r ↦ f.known m (Refuse floor r.0) r.1 ]
outdated s w f m t (Held cut) b = absurd b
outdated s w f m t (Locked holder) b = absurd b
outdated s w f m t (Mismatch item) b = absurd b

-- an aborted identifier is not committed
pub not_both : (s : Setting) (log : List Entry) (t : ℕ) → IsCommitted s log t → IsAborted s log t → ⊥
not_both s log t c a = a.refused.never (c a.node a.participant)

module _ (s : Setting) (w : World) (f : IsFaithful s w) where
  -- nothing is above itself
  pub new_not_begun : (t : ℕ) → IsNew s w t → ¬ In t w.begun
  new_not_begun t new h = let below = new t h refl in omega arith

  -- a begun identifier has a granted participant only if it was begun
  pub committed_begun : (t : ℕ) → IsMini (s.mini t) → IsCommitted s w.log t → In t w.begun
  committed_begun t mini c = f.known mini.participant.0 (Grant t) (c mini.participant.0 mini.participant.1)

  -- what has its point is live and committed
  pub point_committed : (t : ℕ) → HasPoint s w.points t → IsLive s t × IsCommitted s w.log t
  point_committed t h = elim h [
    | inl p ↦ ((f.points t p).fresh.0, (f.points t p).committed)
    | inr e ↦ ((f.found t (f.early t e).0).1, (f.early t e).1)
  ]

  point_grows : (v : World) → Grows s w v → (t : ℕ) → IsPoint s w t → IsPoint s v t
  point_grows v g t p = record { begun = g.begun t p.begun; fresh = p.fresh; committed = committed_grows s w v g t p.committed }

  -- ---- an identifier begins
  begins : (t : ℕ) → May s w (Begins t) → IsFaithful s (after s w (Begins t))
  begins t may =
      let g = grows s w (Begins t) may in
      record {
        old = λ u h. inr (f.old u h);
        found = λ u h. (inr (f.found u h).0, (f.found u h).1);
        early = f.early;
        known = λ m r h. inr (f.known m r h);
        closed = f.closed;
        minis = λ u h live. elim h [ inl is ↦ subst (λ x. IsMini (s.mini x)) (sym is) may.1 | inr before ↦ f.minis u before live ];
        stands = λ m r h live. stands_grow s w (after s w (Begins t)) g m r (f.stands m r h live);
        refused = f.refused;
        promises = λ p h. promises_grow s w (after s w (Begins t)) g p (f.promises p h);
        points = λ u h. point_grows (after s w (Begins t)) g u (f.points u h);
        committed = λ u h live c. elim h [
          | inl is ↦ absurd (new_not_begun t may.0 (committed_begun t may.1 (subst (λ x. IsCommitted s w.log x) is c)))
          | inr before ↦ f.committed u before live c
        ];
        distinct = f.distinct;
      }

  -- ---- a message is posted
  posts : (p : Message) → May s w (Posts p) → IsFaithful s (after s w (Posts p))
  posts p may =
      let g = grows s w (Posts p) may in
      let v = after s w (Posts p) in
      record {
        old = f.old;
        found = f.found;
        early = f.early;
        known = f.known;
        closed = f.closed;
        minis = f.minis;
        stands = λ m r h live. stands_grow s w v g m r (f.stands m r h live);
        refused = f.refused;
        promises = λ q h. elim h [
          | inl is ↦ subst (Promises s v) (sym is) (promises_grow s w v g p may.0)
          | inr before ↦ promises_grow s w v g q (f.promises q before)
        ];
        points = λ u h. point_grows v g u (f.points u h);
        committed = f.committed;
        distinct = f.distinct;
      }

  -- ---- an entry is appended that is no grant
  granted_back : (m : ℕ) (r : Record) → ((t : ℕ) → ¬ (r ≡ Grant t)) → (n u : ℕ) → IsGranted (At m r ∷ w.log) n u → IsGranted w.log n u
  granted_back m r plain n u h = elim h [ inl is ↦ absurd (plain u (sym (one_record n m (Grant u) r is))) | inr before ↦ before ]

  pub open_back : (m : ℕ) (r : Record) → ((t : ℕ) → ¬ (r ≡ Grant t)) → (n u : ℕ) → IsOpen (At m r ∷ w.log) n u → IsOpen w.log n u
  open_back m r plain n u o = record {
    granted = granted_back m r plain n u o.granted;
    undecided = λ d. o.undecided (elim d [ inl h ↦ inl (inr h) | inr h ↦ inr (inr h) ]);
  }

  appends : (m : ℕ) (r : Record) (image : Memory) → ((t : ℕ) → ¬ (r ≡ Grant t)) → In (named_in r) w.begun
      → (IsLive s (named_in r) → Stands s (record w { log = At m r ∷ w.log; image = image }) m r)
      → ((t : ℕ) (why : Reason) → r ≡ Refuse t why → IsRefused s (At m r ∷ w.log) m t)
      → IsFaithful s (record w { log = At m r ∷ w.log; image = image })
  appends m r image plain begun new refusal =
      let v : World = record w { log = At m r ∷ w.log; image = image } in
      let g = grows_entry s w m r image plain in
      record {
        old = f.old;
        found = f.found;
        early = λ u h. ((f.early u h).0, committed_grows s w v g u (f.early u h).1);
        known = λ n q h. elim h [
          | inl is ↦ subst (λ x. In (named_in x) w.begun) (sym (one_record n m q r is)) begun
          | inr before ↦ f.known n q before
        ];
        closed = λ n u h o. f.closed n u h (open_back m r plain n u o);
        minis = f.minis;
        stands = λ n q h live. elim h [
          | inl is ↦ subst (λ x. Stands s v x q) (sym (one_node n m q r is))
              (subst (λ x. IsLive s (named_in x) → Stands s v m x) (sym (one_record n m q r is)) new live)
          | inr before ↦ stands_grow s w v g n q (f.stands n q before live)
        ];
        refused = λ n u why h fresh. elim h [
          | inl is ↦ subst (λ x. IsRefused s v.log x u) (sym (one_node n m (Refuse u why) r is)) (refusal u why (sym (one_record n m (Refuse u why) r is)))
          | inr before ↦ refused_grows s w v g n u (f.refused n u why before fresh)
        ];
        promises = λ q h. promises_grow s w v g q (f.promises q h);
        points = λ u h. point_grows v g u (f.points u h);
        committed = λ u h live c. f.committed u h live (λ n is. granted_back m r plain n u (c n is));
        distinct = f.distinct;
      }

  -- ---- a grant is appended
  grants : (m t : ℕ) (points : List ℕ) → MayGrant s w m t
      → ((u : ℕ) → In u points → IsPoint s (record w { log = At m (Grant t) ∷ w.log; points = points; seen = with_sight w m t }) u)
      → (IsCommitted s (At m (Grant t) ∷ w.log) t → HasPoint s points t)
      → ((u : ℕ) → HasPoint s w.points u → HasPoint s points u)
      → IsDistinct points
      → IsFaithful s (record w { log = At m (Grant t) ∷ w.log; points = points; seen = with_sight w m t })
  grants m t points may are new stays distinct =
      let v : World = record w { log = At m (Grant t) ∷ w.log; points = points; seen = with_sight w m t } in
      let g = grows_grant s w m t points may in
      record {
        old = f.old;
        found = f.found;
        early = λ u h. ((f.early u h).0, committed_grows s w v g u (f.early u h).1);
        known = λ n q h. elim h [
          | inl is ↦ subst (λ x. In (named_in x) w.begun) (sym (one_record n m q (Grant t) is)) may.begun
          | inr before ↦ f.known n q before
        ];
        closed = λ n u h o. elim o.granted [
          | inl is ↦ may.fresh.0 (subst (λ x. In x s.old) (one_grant u t (one_record n m (Grant u) (Grant t) is)) h)
          | inr before ↦ f.closed n u h (record { granted = before; undecided = λ d. o.undecided (elim d [ inl e ↦ inl (inr e) | inr e ↦ inr (inr e) ]) })
        ];
        minis = f.minis;
        stands = λ n q h live. elim h [
          | inl is ↦ subst (λ x. Stands s v x q) (sym (one_node n m q (Grant t) is))
              (subst (λ x. Stands s v m x) (sym (one_record n m q (Grant t) is)) (may.participant, may.logged))
          | inr before ↦ stands_grow s w v g n q (f.stands n q before live)
        ];
        refused = λ n u why h fresh. elim h [
          | inl is ↦ absurd (let e = one_record n m (Refuse u why) (Grant t) is in cc)
          | inr before ↦ refused_grows s w v g n u (f.refused n u why before fresh)
        ];
        promises = λ q h. promises_grow s w v g q (f.promises q h);
        points = are;
        committed = λ u h live c. elim (cases_eq u t) [
          | inl same ↦ subst (HasPoint s points) (sym same) (new (subst (λ x. IsCommitted s v.log x) same c))
          | inr other ↦ stays u (f.committed u h live (λ n is. elim (c n is) [
            | inl e ↦ absurd (other (one_grant u t (one_record n m (Grant u) (Grant t) e)))
            | inr before ↦ before
          ]))
        ];
        distinct = distinct;
      }

  -- an identifier that may be granted has no point yet
  pub no_point_yet : (m t : ℕ) → MayGrant s w m t → ¬ HasPoint s w.points t
  no_point_yet m t may h = may.above (granted_passed s w.log m t ((point_committed t h).1 m may.participant))

  pub faithful_after : (e : Event) → May s w e → IsFaithful s (after s w e)
  faithful_after (Begins t) may = begins t may
  faithful_after (Posts p) may = posts p may
  faithful_after (Grants m t) may =
      grants m t w.points may.0 (λ u h. point_grows _ (grows_grant s w m t w.points may.0) u (f.points u h)) (λ c. absurd (may.1 c)) (λ u h. h) f.distinct
  faithful_after (Completes m t) may =
      grants m t (t ∷ w.points) may.0
      (λ u h. elim h [
        | inl is ↦ record {
          begun = subst (λ x. In x w.begun) (sym is) may.0.begun;
          fresh = subst (IsFresh s) (sym is) may.0.fresh;
          committed = subst (IsCommitted s (At m (Grant t) ∷ w.log)) (sym is) may.1;
        }
        | inr before ↦ point_grows _ (grows_grant s w m t (t ∷ w.points) may.0) u (f.points u before)
      ])
      (λ c. inl (inl refl))
      (λ u h. elim h [ inl p ↦ inl (inr p) | inr e ↦ inr e ])
      (λ h. no_point_yet m t may.0 (inl h), f.distinct)
  faithful_after (Refuses m t why) may =
      appends m (Refuse t why) w.image (λ u e. absurd cc) may.0 (λ live. tt) (λ u other e. refusal u (same u other e))
    where
      same : (u : ℕ) (other : Reason) → Refuse t why ≡ Refuse u other → u ≡ t
      same u other e = cc

      refusal : (u : ℕ) → u ≡ t → IsRefused s (At m (Refuse t why) ∷ w.log) m u
      refusal u is = record {
        passed = record { by = t; cast = inr (why, inl refl); same = ap s.coord (sym is); above = omega (arith, is) };
        never = λ h. elim h [
          | inl e ↦ let x = one_record m m (Grant u) (Refuse t why) e in cc
          | inr before ↦ may.1 (subst (IsPassed s w.log m) is (granted_passed s w.log m u before))
        ];
      }
  faithful_after (Commits m t) may =
      let g = grows s w (Commits m t) may in
      let v = after s w (Commits m t) in
      appends m (Commit t) v.image (λ u e. absurd cc) (f.known m (Grant t) may.1.granted)
      (λ live. (inr may.1.granted, committed_grows s w v g t may.2)) (λ u why e. absurd cc)
  faithful_after (Aborts m t) may =
      let g = grows s w (Aborts m t) may in
      let v = after s w (Aborts m t) in
      appends m (Abort t) w.image (λ u e. absurd cc) (f.known m (Grant t) may.1.granted)
      (λ live. stands_grow s w v g m (Abort t) (may.1.granted, may.2)) (λ u why e. absurd cc)
  faithful_after (Forgets m t) may =
      let g = grows s w (Forgets m t) may in
      let v = after s w (Forgets m t) in
      appends m (Forget t) w.image (λ u e. absurd cc) may.0
      (λ live. stands_grow s w v g m (Forget t) (may.1 live)) (λ u why e. absurd cc)

-- ---- what is found at an opening

-- an element of one of two lists
pub in_front : {A : Type 0} (x : A) (xs ys : List A) → In x xs → In x (xs ++ ys)
in_front x [] ys h = elim h [ ]
in_front x (y ∷ xs) ys h = elim h [ inl is ↦ inl is | inr rest ↦ inr (in_front x xs ys rest) ]

pub in_back : {A : Type 0} (x : A) (xs ys : List A) → In x ys → In x (xs ++ ys)
in_back x [] ys h = h
in_back x (y ∷ xs) ys h = inr (in_back x xs ys h)

pub in_either : {A : Type 0} (x : A) (xs ys : List A) → In x (xs ++ ys) → In x xs ⊎ In x ys
in_either x [] ys h = inr h
in_either x (y ∷ xs) ys h = elim h [
  | inl is ↦ inl (inl is)
  | inr rest ↦ elim (in_either x xs ys rest) [ inl a ↦ inl (inr a) | inr b ↦ inr b ]
]

module _ (s : Setting) (log : List Entry) (image : Memory) (o : IsOpening s log image) where
  -- a live identifier that is known was found undecided
  pub live_found : (t : ℕ) → In t (s.found ++ s.old) → IsLive s t → In t s.found
  live_found t h live = elim (in_either t s.found s.old h) [ inl a ↦ a | inr b ↦ absurd (live b) ]

  pub known_begun : (m : ℕ) (r : Record) → In (At m r) log → In (named_in r) (s.found ++ s.old)
  known_begun m r h = elim (o.known m r h) [ inl a ↦ in_front (named_in r) s.found s.old a | inr b ↦ in_back (named_in r) s.found s.old b ]

  pub faithful_opening : IsFaithful s (opened s log image)
  faithful_opening = record {
    old = λ t h. in_back t s.found s.old h;
    found = λ t h. (in_front t s.found s.old h, o.live t h);
    early = o.early;
    known = known_begun;
    closed = o.closed;
    minis = λ t h live. o.minis t (live_found t h live);
    stands = λ m r h live. o.stands m r h (live_found (named_in r) (known_begun m r h) live);
    refused = λ m t why h fresh. absurd (fresh.1 (live_found t (known_begun m (Refuse t why) h) fresh.0));
    promises = λ p h. absurd h;
    points = λ t h. absurd h;
    committed = λ t h live c. inr (o.committed t (live_found t h live) c);
    distinct = tt;
  }
