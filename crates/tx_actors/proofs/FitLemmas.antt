-- What holds of coordinators and of the manager between any two events.
use Rattle.std.proofs.Common.{◌≡◌, ℕ, ◌<◌, ◌≤◌, Bool, true, false, cond, List, [], ◌∷◌, map, Some, inl, inr, refl}
use Rattle.tx_rules.specs.Mini.{In, Setting, nodes_of, IsLive, IsFresh}
use Rattle.tx_rules.specs.Decision.{Record, Grant, Refuse, Commit, Abort, Forget}
use Rattle.tx_rules.specs.World.{Message, Looked, Refused, Done, Ask, AnswerOk, World, Promises, AtPosting, Event, Begins, Grants, Completes, Refuses, Commits, Aborts, Forgets, Posts, May, after, IsRun, after_all}
use Rattle.tx_rules.proofs.GrowthLemmas.{Grows, promises_grow, committed_grows, aborted_grows, grows}
use Rattle.tx_rules.proofs.SoundLemmas.{grows_all}
use Rattle.tx_actors.specs.Coordinator.{Running, Finishing, Coordinator, Outcome, Committed, Failed, Act, decide}
use Rattle.tx_actors.specs.Manager.{Work, Deed}
use Rattle.tx_actors.specs.Machine.{event_of, appending}
use Rattle.tx_actors.specs.Laws.{IsVote, OutcomeStands}

-- ---- worlds that grow

-- a later world: it has grown, and all that was posted is there
pub record IsLater (s : Setting) (w v : World) : Type 0 where
  pub grows : Grows s w v
  pub posted : (p : Message) → In p w.posted → In p v.posted

posted_after : (s : Setting) (w : World) (e : Event) (p : Message) → In p w.posted → In p (after s w e).posted
posted_after s w (Begins t) p h = h
posted_after s w (Grants m t) p h = h
posted_after s w (Completes m t) p h = h
posted_after s w (Refuses m t why) p h = h
posted_after s w (Commits m t) p h = h
posted_after s w (Aborts m t) p h = h
posted_after s w (Forgets m t) p h = h
posted_after s w (Posts q) p h = inr h

posted_all : (s : Setting) (w : World) (events : List Event) (p : Message) → In p w.posted → In p (after_all s w events).posted
posted_all s w [] p h = h
posted_all s w (e ∷ events) p h = posted_all s (after s w e) events p (posted_after s w e p h)

pub later_all : (s : Setting) (w : World) (events : List Event) → IsRun s w events → IsLater s w (after_all s w events)
later_all s w events run = record { grows = grows_all s w events run; posted = posted_all s w events }

-- what was begun stays begun, whether the events may happen or not
begun_after : (s : Setting) (w : World) (e : Event) (t : ℕ) → In t w.begun → In t (after s w e).begun
begun_after s w (Begins u) t h = inr h
begun_after s w (Grants m u) t h = h
begun_after s w (Completes m u) t h = h
begun_after s w (Refuses m u why) t h = h
begun_after s w (Commits m u) t h = h
begun_after s w (Aborts m u) t h = h
begun_after s w (Forgets m u) t h = h
begun_after s w (Posts q) t h = h

pub begun_all : (s : Setting) (w : World) (events : List Event) (t : ℕ) → In t w.begun → In t (after_all s w events).begun
begun_all s w [] t h = h
begun_all s w (e ∷ events) t h = begun_all s (after s w e) events t (begun_after s w e t h)

-- records and messages begin nothing
pub posts_begin : (s : Setting) (w : World) (posts : List Message) (t : ℕ) → In t (after_all s w (map Posts posts)).begun → In t w.begun
posts_begin s w [] t h = h
posts_begin s w (p ∷ posts) t h = posts_begin s (after s w (Posts p)) posts t h

record_begins : (s : Setting) (w : World) (m : ℕ) (r : Record) (t : ℕ) → In t (after s w (event_of s w m r)).begun → In t w.begun
record_begins s w m (Grant u) t h = go _ h
  where
    go : (b : Bool) → In t (after s w (cond b (Completes m u) (Grants m u))).begun → In t w.begun
    go true k = k
    go false k = k
record_begins s w m (Refuse u why) t h = h
record_begins s w m (Commit u) t h = h
record_begins s w m (Abort u) t h = h
record_begins s w m (Forget u) t h = h

pub appending_begins : (s : Setting) (w : World) (m : ℕ) (rs : List Record) (t : ℕ) → In t (after_all s w (appending s w m rs)).begun → In t w.begun
appending_begins s w m [] t h = h
appending_begins s w m (r ∷ rs) t h = record_begins s w m r t (appending_begins s (after s w (event_of s w m r)) m rs t h)

-- ---- posting

-- it is neither a refusal nor a look
abbrev pub IsPlainKind : Message → Type 0
IsPlainKind (Refused m t why) = ⊥
IsPlainKind (Looked m t bytes) = ⊥
IsPlainKind p = Unit {0}

-- a message of a plain kind that may be posted wherever its promise holds
abbrev pub IsPlain : Setting → Message → Type 0
IsPlain s p = IsPlainKind p × ((w : World) → AtPosting s w p)

abbrev pub MayPost : Setting → World → Message → Type 0
MayPost s w p = Promises s w p × IsPlain s p

pub posts_run : (s : Setting) (w : World) (posts : List Message) → ((p : Message) → In p posts → MayPost s w p) → IsRun s w (map Posts posts)
posts_run s w [] all = tt
posts_run s w (p ∷ posts) all =
    let first = all p (inl refl) in
    let may : May s w (Posts p) = (first.0, first.1.1 w) in (
      may,
      posts_run s (after s w (Posts p)) posts (λ q h.
          (promises_grow s w (after s w (Posts p)) (grows s w (Posts p) may) q (all q (inr h)).0, (all q (inr h)).1)),
    )

pub decide_plain : (s : Setting) (commits : Bool) (t : ℕ) → IsPlain s (decide commits t)
decide_plain s true t = (tt, λ w. tt)
decide_plain s false t = (tt, λ w. tt)

-- what is decided was begun
pub decide_begun : (s : Setting) (w : World) (commits : Bool) (t : ℕ) → Promises s w (decide commits t) → In t w.begun
decide_begun s w true t h = h.0
decide_begun s w false t h = h.0

-- ---- coordinators

pub record FitsRunning (s : Setting) (w : World) (c : ℕ) (r : Running) : Type 0 where
  pub begun : In r.id w.begun
  pub fresh : IsFresh s r.id
  pub here : s.coord r.id ≡ c
  pub newest : (u : ℕ) → In u w.begun → s.coord u ≡ c → u ≤ r.id
  pub votes : (v : ℕ × List (List ℕ)) → In v r.votes → IsVote s w r.id v

pub record FitsFinishing (s : Setting) (w : World) (f : Finishing) : Type 0 where
  pub decided : Promises s w (decide f.commits f.id)
  pub done : (m : ℕ) → In m f.done → Promises s w (Done m f.id)

pub record FitsCoordinator (s : Setting) (w : World) (c : ℕ) (x : Coordinator) : Type 0 where
  pub running : (r : Running) → x.running ≡ Some r → FitsRunning s w c r
  pub finishing : (f : Finishing) → In f x.finishing → FitsFinishing s w f
  pub next : (u : ℕ) → In u w.begun → s.coord u ≡ c → u < x.next

pub record FitsWork (s : Setting) (w : World) (x : Work) : Type 0 where
  pub named : IsLive s x.id → x.nodes ≡ nodes_of s x.id
  pub known : Promises s w (Ask x.id)
  pub oks : (m : ℕ) → In m x.oks → Promises s w (AnswerOk m x.id)
  pub decided : (commits : Bool) → x.decision ≡ Some commits → Promises s w (decide commits x.id)
  pub done : (m : ℕ) → In m x.done → Promises s w (Done m x.id)

module _ (s : Setting) (w v : World) (l : IsLater s w v) where
  pub vote_later : (t : ℕ) (x : ℕ × List (List ℕ)) → IsVote s w t x → IsVote s v t x
  vote_later t x h = (h.0, elim h.1 [ inl g ↦ inl (l.posted _ g) | inr k ↦ inr (l.posted _ k) ])

  pub finishing_later : (f : Finishing) → FitsFinishing s w f → FitsFinishing s v f
  finishing_later f fits = record {
    decided = promises_grow s w v l.grows (decide f.commits f.id) fits.decided;
    done = λ m is. promises_grow s w v l.grows (Done m f.id) (fits.done m is);
  }

  pub coordinator_later : (c : ℕ) (x : Coordinator) → ((u : ℕ) → In u v.begun → s.coord u ≡ c → In u w.begun) → FitsCoordinator s w c x → FitsCoordinator s v c x
  coordinator_later c x back h = record {
    running = λ r is. let f = h.running r is in record {
      begun = l.grows.begun r.id f.begun;
      fresh = f.fresh;
      here = f.here;
      newest = λ u k same. f.newest u (back u k same) same;
      votes = λ y k. vote_later r.id y (f.votes y k);
    };
    finishing = λ f k. finishing_later f (h.finishing f k);
    next = λ u k same. h.next u (back u k same) same;
  }

  pub work_later : (x : Work) → FitsWork s w x → FitsWork s v x
  work_later x h = record {
    named = h.named;
    known = promises_grow s w v l.grows (Ask x.id) h.known;
    oks = λ m is. promises_grow s w v l.grows (AnswerOk m x.id) (h.oks m is);
    decided = λ commits is. promises_grow s w v l.grows (decide commits x.id) (h.decided commits is);
    done = λ m is. promises_grow s w v l.grows (Done m x.id) (h.done m is);
  }

  pub outcome_later : (o : Outcome) → OutcomeStands s w o → OutcomeStands s v o
  outcome_later (Committed t votes) h =
      (l.grows.begun t h.0, h.1, elim h.2 [ inl c ↦ inl (committed_grows s w v l.grows t c) | inr r ↦ inr r ], λ x k. vote_later t x (h.3 x k), h.4)
  outcome_later (Failed t m why) h =
      (l.grows.begun t h.0, h.1, elim h.2 [ inl a ↦ inl (aborted_grows s w v l.grows t a) | inr r ↦ inr r ], h.3, l.posted (Refused m t why) h.4)

-- an act that the rules allow
pub record IsFine (s : Setting) (w : World) (c : ℕ) (a : Act) : Type 0 where
  pub now : FitsCoordinator s w c a.now
  pub posts : (p : Message) → In p a.posts → MayPost s w p
  pub ends : (o : Outcome) → In o a.ends → OutcomeStands s w o

pub record IsFineDeed (s : Setting) (w : World) (d : Deed) : Type 0 where
  pub now : (x : Work) → In x d.now → FitsWork s w x
  pub posts : (p : Message) → In p d.posts → MayPost s w p
