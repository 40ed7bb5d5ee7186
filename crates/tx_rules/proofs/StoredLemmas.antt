-- What holds of locks, images and the flat memory between any two events.
use Rattle.std.proofs.Common.{◌≡◌, ℕ, cond, List, [], ◌∷◌, Option, Some, None, unwrap_or, ◌⊎◌, inl, inr, refl, sym, ap, ◌∙◌, subst}
use Rattle.std.proofs.lemmas.Bool.{cases_eq, eq-eqb, ne_eqb}
use Rattle.tx_rules.specs.Mini.{In, Memory, Setting, nodes_of, cells_of, IsLive, IsFresh, Matches, AreApart, with_writes, flat}
use Rattle.tx_rules.specs.Decision.{Record, Grant, Refuse, Commit, Abort, Forget, Entry, At, IsGranted, IsOpen, IsCommitted, IsAborted}
use Rattle.tx_rules.specs.World.{World, MayGrant, Event, Begins, Grants, Completes, Refuses, Commits, Aborts, Forgets, Posts, May, with_sight, with_writes_at, after}
use Rattle.tx_rules.specs.Opening.{HasPoint, IsPending, IsOpening}
use Rattle.tx_rules.proofs.GrowthLemmas.{one_node, one_record, one_grant, granted_passed, own_sight, grows_grant, aborted_grows}
use Rattle.tx_rules.proofs.FaithfulLemmas.{IsFaithful, not_both, point_committed, no_point_yet, open_back, live_found, faithful_opening}

-- what was read at each point is the flat memory before it
abbrev pub AreRead : Setting → (ℕ → Memory) → List ℕ → Type 0
AreRead s seen [] = Unit {0}
AreRead s seen (t ∷ points) =
    ((m a : ℕ) → In m (nodes_of s t) → In a (cells_of s t m) → seen t m a ≡ flat s points m a) × AreRead s seen points

pub record IsStored (s : Setting) (log : List Entry) (points : List ℕ) (image : Memory) (seen : ℕ → Memory) : Type 0 where
  pub apart : (m t u : ℕ) → IsFresh s t → IsOpen log m t → IsOpen log m u → ¬ (t ≡ u) → AreApart s m t u
  pub pending : (m a t v : ℕ) → IsPending s log points m a t v → flat s points m a ≡ v
  pub settled : (m a : ℕ) → ((t v : ℕ) → ¬ IsPending s log points m a t v) → flat s points m a ≡ image m a
  pub held : (m t a : ℕ) → IsFresh s t → IsOpen log m t → In a (cells_of s t m) → image m a ≡ seen t m a
  pub wanted : (m t : ℕ) → IsFresh s t → IsGranted log m t → Matches s t m (seen t m)
  pub read : AreRead s seen points

-- what one write item writes
pub one_write : (o : Option ℕ) (x y : ℕ) → o ≡ Some x → o ≡ Some y → x ≡ y
one_write o x y a b = cc

pub no_write : (o : Option ℕ) (x : ℕ) → o ≡ None → o ≡ Some x → ⊥
no_write o x a b = cc

module _ (s : Setting) (w : World) (f : IsFaithful s w) (i : IsStored s w.log w.points w.image w.seen) where
  -- the cells that a live identifier writes are its participants' and are touched
  written : (t n a v : ℕ) → In t w.begun → IsLive s t → (s.mini t).writes n a ≡ Some v → In n (nodes_of s t) × In a (cells_of s t n)
  written t n a v begun live is = (f.minis t begun live).written n a v is

  point_begun : (t n : ℕ) → IsOpen w.log n t → In t w.begun
  point_begun t n o = f.known n (Grant t) o.granted

  -- the cells that a pending identifier writes are touched
  pub pending_touched : (n a u v : ℕ) → IsPending s w.log w.points n a u v → In a (cells_of s u n)
  pending_touched n a u v p = (written u n a v (point_begun u n p.record_open) (point_committed s w f u p.point).0 p.writes).1

  -- ---- an entry that neither grants nor changes the images
  entry_kept : (m : ℕ) (r : Record) → ((t : ℕ) → ¬ (r ≡ Grant t))
      → ((n u : ℕ) → HasPoint s w.points u → IsOpen w.log n u → IsOpen (At m r ∷ w.log) n u)
      → IsStored s (At m r ∷ w.log) w.points w.image w.seen
  entry_kept m r plain stays =
      let back = open_back s w f m r plain in
      record {
        apart = λ n t u fresh o q differ. i.apart n t u fresh (back n t o) (back n u q) differ;
        pending = λ n a t v p. i.pending n a t v (record { point = p.point; record_open = back n t p.record_open; writes = p.writes });
        settled = λ n a none. i.settled n a (λ t v p. none t v (record { point = p.point; record_open = stays n t p.point p.record_open; writes = p.writes }));
        held = λ n t a fresh o is. i.held n t a fresh (back n t o) is;
        wanted = λ n t fresh h. elim h [ inl is ↦ absurd (plain t (sym (one_record n m (Grant t) r is))) | inr before ↦ i.wanted n t fresh before ];
        read = i.read;
      }

  -- ---- an abort
  aborts : (m t : ℕ) → IsAborted s w.log t → (n u : ℕ) → HasPoint s w.points u → IsOpen w.log n u → IsOpen (At m (Abort t) ∷ w.log) n u
  aborts m t aborted n u point o = record {
    granted = inr o.granted;
    undecided = λ d. elim d [
      | inl (inl is) ↦ let e = one_record n m (Commit u) (Abort t) is in cc
      | inl (inr h) ↦ o.undecided (inl h)
      | inr (inl is) ↦ not_both s w.log t (subst (IsCommitted s w.log) (one (one_record n m (Abort u) (Abort t) is)) (point_committed s w f u point).1) aborted
      | inr (inr h) ↦ o.undecided (inr h)
    ];
  }
    where
      one : Abort u ≡ Abort t → u ≡ t
      one e = cc

  -- ---- an entry that decides nothing
  undeciding : (m : ℕ) (r : Record) → ((u : ℕ) → ¬ (r ≡ Commit u)) → ((u : ℕ) → ¬ (r ≡ Abort u)) → (n u : ℕ) → IsOpen w.log n u → IsOpen (At m r ∷ w.log) n u
  undeciding m r plain_commit plain_abort n u o = record {
    granted = inr o.granted;
    undecided = λ d. elim d [
      | inl (inl is) ↦ plain_commit u (sym (one_record n m (Commit u) r is))
      | inl (inr h) ↦ o.undecided (inl h)
      | inr (inl is) ↦ plain_abort u (sym (one_record n m (Abort u) r is))
      | inr (inr h) ↦ o.undecided (inr h)
    ];
  }

  -- ---- a commit
  commit_elsewhere : (m t n : ℕ) → ¬ (n ≡ m) → with_writes_at s m t w.image n ≡ w.image n
  commit_elsewhere m t n other = ap (λ b. cond b (with_writes s t w.image n) (w.image n)) (ne_eqb n m other)

  commit_here : (m t : ℕ) → with_writes_at s m t w.image m ≡ with_writes s t w.image m
  commit_here m t = ap (λ b. cond b (with_writes s t w.image m) (w.image m)) (eq-eqb m m refl)

  commit_written : (m t a v : ℕ) → (s.mini t).writes m a ≡ Some v → with_writes_at s m t w.image m a ≡ v
  commit_written m t a v is = ap (λ (h : ℕ → ℕ). h a) (commit_here m t) ∙ ap (λ (o : Option ℕ). unwrap_or o (w.image m a)) is

  commit_unwritten : (m t a : ℕ) → (s.mini t).writes m a ≡ None → with_writes_at s m t w.image m a ≡ w.image m a
  commit_unwritten m t a is = ap (λ (h : ℕ → ℕ). h a) (commit_here m t) ∙ ap (λ (o : Option ℕ). unwrap_or o (w.image m a)) is

  -- an open record of another identifier, or at another memory node, stays open
  commit_stays : (m t n u : ℕ) → ((n ≡ m) → (u ≡ t) → ⊥) → IsOpen w.log n u → IsOpen (At m (Commit t) ∷ w.log) n u
  commit_stays m t n u other o = record {
    granted = inr o.granted;
    undecided = λ d. elim d [
      | inl (inl is) ↦ other (one_node n m (Commit u) (Commit t) is) (one (one_record n m (Commit u) (Commit t) is))
      | inl (inr h) ↦ o.undecided (inl h)
      | inr (inl is) ↦ let e = one_record n m (Abort u) (Commit t) is in cc
      | inr (inr h) ↦ o.undecided (inr h)
    ];
  }
    where
      one : Commit u ≡ Commit t → u ≡ t
      one e = cc

  commit_settled : (m t a : ℕ) → May s w (Commits m t) → ((u v : ℕ) → ¬ IsPending s (At m (Commit t) ∷ w.log) w.points m a u v)
      → flat s w.points m a ≡ with_writes_at s m t w.image m a
  commit_settled m t a may none = go ((s.mini t).writes m a) refl
    where
      go : (o : Option ℕ) → (s.mini t).writes m a ≡ o → flat s w.points m a ≡ with_writes_at s m t w.image m a
      go (Some v) is =
          i.pending m a t v (record { point = f.committed t (f.known m (Grant t) may.1.granted) may.0 may.2; record_open = may.1; writes = is })
          ∙ sym (commit_written m t a v is)
      go None is =
          i.settled m a (λ u v p. none u v (record {
            point = p.point;
            record_open = commit_stays m t m u (λ here same. no_write ((s.mini t).writes m a) v is (subst (λ x. (s.mini x).writes m a ≡ Some v) same p.writes)) p.record_open;
            writes = p.writes;
          })) ∙ sym (commit_unwritten m t a is)

  commit_held : (m t u a : ℕ) → May s w (Commits m t) → IsFresh s u → IsOpen (At m (Commit t) ∷ w.log) m u → In a (cells_of s u m)
      → with_writes_at s m t w.image m a ≡ w.image m a
  commit_held m t u a may fresh o is = go ((s.mini t).writes m a) refl
    where
      go : (x : Option ℕ) → (s.mini t).writes m a ≡ x → with_writes_at s m t w.image m a ≡ w.image m a
      go None same = commit_unwritten m t a same
      go (Some v) same = absurd (i.apart m u t fresh (open_back s w f m (Commit t) (λ x e. absurd cc) m u o) may.1
          (λ e. o.undecided (inl (inl (ap (λ x. At m (Commit x)) e)))) a is
          (written t m a v (f.known m (Grant t) may.1.granted) may.0 same).1)

  commits : (m t : ℕ) → May s w (Commits m t) → IsStored s (At m (Commit t) ∷ w.log) w.points (with_writes_at s m t w.image) w.seen
  commits m t may =
      let plain : (u : ℕ) → ¬ (Commit t ≡ Grant u) = (λ u e. absurd cc) in
      let back = open_back s w f m (Commit t) plain in
      record {
        apart = λ n u x fresh o q differ. i.apart n u x fresh (back n u o) (back n x q) differ;
        pending = λ n a u v p. i.pending n a u v (record { point = p.point; record_open = back n u p.record_open; writes = p.writes });
        settled = λ n a none. elim (cases_eq n m) [
          | inl here ↦ subst (λ x. flat s w.points x a ≡ with_writes_at s m t w.image x a) (sym here)
              (commit_settled m t a may (subst (λ x. (u v : ℕ) → ¬ IsPending s (At m (Commit t) ∷ w.log) w.points x a u v) here none))
          | inr other ↦ i.settled n a (λ u v p. none u v (record {
            point = p.point;
            record_open = commit_stays m t n u (λ here same. other here) p.record_open;
            writes = p.writes;
          })) ∙ sym (ap (λ (h : ℕ → ℕ). h a) (commit_elsewhere m t n other))
        ];
        held = λ n u a fresh o is. elim (cases_eq n m) [
          | inl here ↦ subst (λ x. with_writes_at s m t w.image x a ≡ w.image x a) (sym here)
              (commit_held m t u a may fresh (subst (λ x. IsOpen (At m (Commit t) ∷ w.log) x u) here o) (subst (λ x. In a (cells_of s u x)) here is))
              ∙ i.held n u a fresh (back n u o) is
          | inr other ↦ ap (λ (h : ℕ → ℕ). h a) (commit_elsewhere m t n other) ∙ i.held n u a fresh (back n u o) is
        ];
        wanted = λ n u fresh h. elim h [ inl is ↦ absurd (plain u (sym (one_record n m (Grant u) (Commit t) is))) | inr before ↦ i.wanted n u fresh before ];
        read = i.read;
      }

  -- ---- a grant
  module _ (m t : ℕ) (may : MayGrant s w m t) where
    -- an open record is the new one or was open before
    grant_cases : (n u : ℕ) → IsOpen (At m (Grant t) ∷ w.log) n u → ((n ≡ m) × (u ≡ t)) ⊎ IsOpen w.log n u
    grant_cases n u o = elim o.granted [
      | inl is ↦ inl (one_node n m (Grant u) (Grant t) is, one_grant u t (one_record n m (Grant u) (Grant t) is))
      | inr before ↦ inr (record { granted = before; undecided = λ d. o.undecided (elim d [ inl e ↦ inl (inr e) | inr e ↦ inr (inr e) ]) })
    ]

    grant_stays : (n u : ℕ) → IsOpen w.log n u → IsOpen (At m (Grant t) ∷ w.log) n u
    grant_stays = undeciding m (Grant t) (λ u e. absurd cc) (λ u e. absurd cc)

    grant_apart : (n u x : ℕ) → IsFresh s u → IsOpen (At m (Grant t) ∷ w.log) n u → IsOpen (At m (Grant t) ∷ w.log) n x → ¬ (u ≡ x) → AreApart s n u x
    grant_apart n u x fresh o q differ = elim (grant_cases n u o) [
      | inl here ↦ elim (grant_cases n x q) [
        | inl also ↦ absurd (differ (here.1 ∙ sym also.1))
        | inr before ↦ subst (λ k. AreApart s n k x) (sym here.1)
            (subst (λ k. AreApart s k t x) (sym here.0) (may.unlocked x (subst (λ k. IsOpen w.log k x) here.0 before)))
      ]
      | inr before ↦ elim (grant_cases n x q) [
        | inl also ↦ λ a in_u in_x. may.unlocked u (subst (λ k. IsOpen w.log k u) also.0 before) a
            (subst (λ k. In a (cells_of s k m)) also.1 (subst (λ k. In a (cells_of s x k)) also.0 in_x))
            (subst (λ k. In a (cells_of s u k)) also.0 in_u)
        | inr too ↦ i.apart n u x fresh before too differ
      ]
    ]

    grant_held : (n u a : ℕ) → IsFresh s u → IsOpen (At m (Grant t) ∷ w.log) n u → In a (cells_of s u n) → w.image n a ≡ with_sight w m t u n a
    grant_held n u a fresh o is = elim (grant_cases n u o) [
      | inl here ↦ subst (λ k. w.image k a ≡ with_sight w m t u k a) (sym here.0)
          (subst (λ k. w.image m a ≡ with_sight w m t k m a) (sym here.1) (sym (ap (λ (h : ℕ → ℕ). h a) (own_sight w m t))))
      | inr before ↦ i.held n u a fresh before is ∙ sym (ap (λ (h : ℕ → ℕ). h a) ((grows_grant s w m t w.points may).seen n u before.granted))
    ]

    grant_wanted : (n u : ℕ) → IsFresh s u → IsGranted (At m (Grant t) ∷ w.log) n u → Matches s u n (with_sight w m t u n)
    grant_wanted n u fresh h = elim h [
      | inl is ↦ subst (λ k. Matches s u k (with_sight w m t u k)) (sym (one_node n m (Grant u) (Grant t) is))
          (subst (λ k. Matches s k m (with_sight w m t k m)) (sym (one_grant u t (one_record n m (Grant u) (Grant t) is)))
          (subst (Matches s t m) (sym (own_sight w m t)) may.matching))
      | inr before ↦ subst (Matches s u n) (sym ((grows_grant s w m t w.points may).seen n u before)) (i.wanted n u fresh before)
    ]

    grant_read : (points : List ℕ) → ((u : ℕ) → In u points → IsCommitted s w.log u) → AreRead s w.seen points → AreRead s (with_sight w m t) points
    grant_read [] all read = tt
    grant_read (u ∷ points) all read = (
      λ n a is touched. ap (λ (h : ℕ → ℕ). h a) ((grows_grant s w m t w.points may).seen n u (all u (inl refl) n is)) ∙ read.0 n a is touched,
      grant_read points (λ x h. all x (inr h)) read.1,
    )

    grant_old_read : AreRead s (with_sight w m t) w.points
    grant_old_read = grant_read w.points (λ u h. (f.points u h).committed) i.read

    -- not by the last participant
    grants : IsStored s (At m (Grant t) ∷ w.log) w.points w.image (with_sight w m t)
    grants = record {
      apart = grant_apart;
      pending = λ n a u v p. elim (grant_cases n u p.record_open) [
        | inl here ↦ absurd (no_point_yet s w f m t may (subst (HasPoint s w.points) here.1 p.point))
        | inr before ↦ i.pending n a u v (record { point = p.point; record_open = before; writes = p.writes })
      ];
      settled = λ n a none. i.settled n a (λ u v p. none u v (record { point = p.point; record_open = grant_stays n u p.record_open; writes = p.writes }));
      held = grant_held;
      wanted = grant_wanted;
      read = grant_old_read;
    }

    -- by the last participant: its record is open at all of them
    module _ (all : IsCommitted s (At m (Grant t) ∷ w.log) t) where
      pub complete_open : (n : ℕ) → In n (nodes_of s t) → IsOpen (At m (Grant t) ∷ w.log) n t
      complete_open n is = record {
        granted = all n is;
        undecided = λ d. elim d [
          | inl (inl e) ↦ let x = one_record n m (Commit t) (Grant t) e in cc
          | inl (inr h) ↦ may.above (granted_passed s w.log m t ((f.stands n (Commit t) h may.fresh.0).1 m may.participant))
          | inr (inl e) ↦ let x = one_record n m (Abort t) (Grant t) e in cc
          | inr (inr h) ↦ not_both s (At m (Grant t) ∷ w.log) t all
              (aborted_grows s w _ (grows_grant s w m t w.points may) t (f.stands n (Abort t) h may.fresh.0).1)
        ];
      }

      -- a point before is of another identifier
      other_point : (u : ℕ) → HasPoint s w.points u → ¬ (t ≡ u)
      other_point u h same = no_point_yet s w f m t may (subst (HasPoint s w.points) (sym same) h)

      -- no cell that the new identifier touches has a write to come
      complete_clear : (n a u v : ℕ) → In n (nodes_of s t) → In a (cells_of s t n) → ¬ IsPending s w.log w.points n a u v
      complete_clear n a u v is touched p =
          grant_apart n t u may.fresh (complete_open n is) (grant_stays n u p.record_open) (other_point u p.point) a touched (pending_touched n a u v p)

      complete_pending : (n a u v : ℕ) → IsPending s (At m (Grant t) ∷ w.log) (t ∷ w.points) n a u v → flat s (t ∷ w.points) n a ≡ v
      complete_pending n a u v p = elim (cases_eq u t) [
        | inl same ↦ ap (λ (o : Option ℕ). unwrap_or o (flat s w.points n a)) (subst (λ k. (s.mini k).writes n a ≡ Some v) same p.writes)
        | inr other ↦ go other ((s.mini t).writes n a) refl
      ]
        where
          before : ¬ (u ≡ t) → IsPending s w.log w.points n a u v
          before other = record {
            point = elim p.point [ inl (inl is) ↦ absurd (other is) | inl (inr h) ↦ inl h | inr e ↦ inr e ];
            record_open = elim (grant_cases n u p.record_open) [ inl here ↦ absurd (other here.1) | inr o ↦ o ];
            writes = p.writes;
          }

          go : ¬ (u ≡ t) → (o : Option ℕ) → (s.mini t).writes n a ≡ o → flat s (t ∷ w.points) n a ≡ v
          go other None is = ap (λ (o : Option ℕ). unwrap_or o (flat s w.points n a)) is ∙ i.pending n a u v (before other)
          go other (Some x) is =
              let touched = written t n a x may.begun may.fresh.0 is in
              absurd (complete_clear n a u v touched.0 touched.1 (before other))

      complete_settled : (n a : ℕ) → ((u v : ℕ) → ¬ IsPending s (At m (Grant t) ∷ w.log) (t ∷ w.points) n a u v) → flat s (t ∷ w.points) n a ≡ w.image n a
      complete_settled n a none = go ((s.mini t).writes n a) refl
        where
          go : (o : Option ℕ) → (s.mini t).writes n a ≡ o → flat s (t ∷ w.points) n a ≡ w.image n a
          go None is = ap (λ (o : Option ℕ). unwrap_or o (flat s w.points n a)) is
              ∙ i.settled n a (λ u v p. none u v (record {
                point = elim p.point [ inl h ↦ inl (inr h) | inr e ↦ inr e ];
                record_open = grant_stays n u p.record_open;
                writes = p.writes;
              }))
          go (Some x) is = absurd (none t x (record {
            point = inl (inl refl);
            record_open = complete_open n (written t n a x may.begun may.fresh.0 is).0;
            writes = is;
          }))

      completes : IsStored s (At m (Grant t) ∷ w.log) (t ∷ w.points) w.image (with_sight w m t)
      completes = record {
        apart = grant_apart;
        pending = complete_pending;
        settled = complete_settled;
        held = grant_held;
        wanted = grant_wanted;
        read = (
          λ n a is touched. sym (grant_held n t a may.fresh (complete_open n is) touched)
              ∙ sym (i.settled n a (λ u v p. complete_clear n a u v is touched p)),
          grant_old_read,
        );
      }

  pub stored_after : (e : Event) → May s w e → IsStored s (after s w e).log (after s w e).points (after s w e).image (after s w e).seen
  stored_after (Begins t) may = i
  stored_after (Posts p) may = i
  stored_after (Grants m t) may = grants m t may.0
  stored_after (Completes m t) may = completes m t may.0 may.1
  stored_after (Refuses m t why) may =
      entry_kept m (Refuse t why) (λ u e. absurd cc) (λ n u h o. undeciding m (Refuse t why) (λ x e. absurd cc) (λ x e. absurd cc) n u o)
  stored_after (Forgets m t) may =
      entry_kept m (Forget t) (λ u e. absurd cc) (λ n u h o. undeciding m (Forget t) (λ x e. absurd cc) (λ x e. absurd cc) n u o)
  stored_after (Aborts m t) may = entry_kept m (Abort t) (λ u e. absurd cc) (aborts m t may.2)
  stored_after (Commits m t) may = commits m t may

-- ---- what is found at an opening

pub stored_opening : (s : Setting) (log : List Entry) (image : Memory) → IsOpening s log image → IsStored s log [] image (λ t. image)
stored_opening s log image o =
    let f = faithful_opening s log image o in
    let unknown : (m t : ℕ) → IsFresh s t → IsGranted log m t → ⊥ = (λ m t fresh h. fresh.1 (live_found s log image o t (f.known m (Grant t) h) fresh.0)) in
    record {
      apart = λ m t u fresh a b differ. absurd (unknown m t fresh a.granted);
      pending = o.pending;
      settled = o.settled;
      held = λ m t a fresh q is. absurd (unknown m t fresh q.granted);
      wanted = λ m t fresh h. absurd (unknown m t fresh h);
      read = tt;
    }
