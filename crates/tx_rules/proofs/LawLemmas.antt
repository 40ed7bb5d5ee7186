-- The laws.
use Rattle.std.proofs.Common.{◌≡◌, ℕ, Bool, true, false, cond, List, [], ◌∷◌, ◌++◌, map, Option, Some, None, unwrap_or, ◌⊎◌, inl, inr, refl, sym, ap, ◌∙◌, subst, arith, append_assoc}
use Rattle.std.proofs.lemmas.Bool.{cases_eq}
use Rattle.tx_rules.specs.Mini.{In, Want, IsMini, Setting, nodes_of, cells_of, IsLive, IsFresh, reads_of, DiffersAt, AreApart, flat}
use Rattle.tx_rules.specs.Decision.{Reason, Forced, Held, Locked, Mismatch, Grant, Refuse, Commit, Abort, Forget, At, IsOpen}
use Rattle.tx_rules.specs.World.{Message, Granted, Looked, Refused, World, opened, HasReason, Event, Begins, Grants, Completes, Refuses, Commits, Aborts, Forgets, Posts, May, after, IsRun, after_all}
use Rattle.tx_rules.specs.Laws.{BeginningsAreNew, NamedWasBegun, HasAdded, RunsOnlyAdd, HasFlatReason, WasCast, RefusalsHadTheirReason, DecisionsExclude, DecisionsStay, LoggedDecisionsAgree, ForgottenIsOver, PromisesAreKept, VotesCommit, RefusedNeverCommits, LocksAreApart, LocksStayApart, PointsAreTheCommitted, AllMatch, PointsMatch, history, HistoryIsFlat, OpenPointsTrade, ReadsAreFlat, LooksAreFlat, LooksHadTheirMoment, ImagesAreFlat, UnlockedIsFlat, IsPoint}
use Rattle.tx_rules.proofs.GrowthLemmas.{one_record, committed_grows, aborted_grows, over_grows, decided_grows}
use Rattle.tx_rules.proofs.FaithfulLemmas.{not_both, in_back, live_found, known_begun, outdated}
use Rattle.tx_rules.proofs.StoredLemmas.{AreRead, pending_touched}
use Rattle.tx_rules.proofs.SoundLemmas.{IsSound, always_sound, sound_after_all, grows_all, not_fresh_all}

pub decisions_exclude : DecisionsExclude
decisions_exclude = not_both

pub decisions_stay : DecisionsStay
decisions_stay s w events run t =
    let g = grows_all s w events run in
    let v = after_all s w events in
    (committed_grows s w v g t, aborted_grows s w v g t, over_grows s w v g t)

pub logged_decisions_agree : LoggedDecisionsAgree
logged_decisions_agree s log image o events run m t live =
    let f = (always_sound s log image o events run).faithful in
    (λ h. (f.stands m (Commit t) h live).1, λ h. (f.stands m (Abort t) h live).1)

pub forgotten_is_over : ForgottenIsOver
forgotten_is_over s log image o events run m t live h = ((always_sound s log image o events run).faithful.stands m (Forget t) h live).1

pub promises_are_kept : PromisesAreKept
promises_are_kept s log image o events run = (always_sound s log image o events run).faithful.promises

pub votes_commit : VotesCommit
votes_commit s log image o events run t votes m is =
    ((always_sound s log image o events run).faithful.promises (Granted m t (votes m is).0) (votes m is).1).2

-- ---- refusals

pub refused_never_commits : RefusedNeverCommits
refused_never_commits s log image o events run m t why posted is newest more more_run c =
    let w = after_all s (opened s log image) events in
    let v = after_all s w more in
    let sound = always_sound s log image o events run in
    let promise = sound.faithful.promises (Refused m t why) posted in
    let later = sound_after_all s w more more_run sound in
    elim promise.2 [
      | inl refused ↦ not_both s v.log t c (aborted_grows s w v (grows_all s w more more_run) t (record { node = m; participant = is; refused = refused.1 }))
      | inr (inl forced) ↦ newest (outdated s w sound.faithful m t why forced)
      | inr (inr reader) ↦ let e : true ≡ false = sym (later.faithful.stands m (Grant t) (c m is) promise.1.0).1 ∙ reader in cc
    ]

-- ---- locks

pub locks_are_apart : LocksAreApart
locks_are_apart s log image o events run = (always_sound s log image o events run).stored.apart

-- what is found undecided is no element of a list of others
in_or_not : (t : ℕ) (ts : List ℕ) → In t ts ⊎ (¬ In t ts)
in_or_not t [] = inr (λ h. h)
in_or_not t (u ∷ ts) = elim (cases_eq t u) [
  | inl same ↦ inl (inl same)
  | inr other ↦ elim (in_or_not t ts) [
    | inl h ↦ inl (inr h)
    | inr never ↦ inr (λ h. elim h [ inl same ↦ other same | inr rest ↦ never rest ])
  ]
]

fresh_or_not : (s : Setting) (t : ℕ) → IsFresh s t ⊎ (¬ IsFresh s t)
fresh_or_not s t = elim (in_or_not t s.old) [
  | inl h ↦ inr (λ fresh. fresh.0 h)
  | inr live ↦ elim (in_or_not t s.found) [ inl h ↦ inr (λ fresh. fresh.1 h) | inr never ↦ inl (live, never) ]
]

pub locks_stay_apart : LocksStayApart
locks_stay_apart s log image o apart events run m t u open_t open_u differ =
    let w = after_all s (opened s log image) events in
    let stored = (always_sound s log image o events run).stored in
    let at_opening : (x : ℕ) → ¬ IsFresh s x → IsOpen w.log m x → IsOpen log m x = (λ x stale q. record {
      granted = not_fresh_all s (opened s log image) events run m x stale q.granted;
      undecided = λ d. q.undecided (decided_grows s (opened s log image) w (grows_all s (opened s log image) events run) m x d);
    }) in
    elim (fresh_or_not s t) [
      | inl fresh ↦ stored.apart m t u fresh open_t open_u differ
      | inr stale_t ↦ elim (fresh_or_not s u) [
        | inl fresh ↦ λ a in_t in_u. stored.apart m u t fresh open_u open_t (λ e. differ (sym e)) a in_u in_t
        | inr stale_u ↦ apart m t u (at_opening t stale_t open_t) (at_opening u stale_u open_u) differ
      ]
    ]

-- ---- the flat history

pub points_are_the_committed : PointsAreTheCommitted
points_are_the_committed s log image o events run =
    let f = (always_sound s log image o events run).faithful in (
      f.distinct,
      λ t. (
        f.points t,
        λ p. elim (f.committed t p.begun p.fresh.0 p.committed) [
          | inl h ↦ h
          | inr e ↦ absurd (p.fresh.1 (f.early t e).0)
        ],
      ),
    )

module _ (s : Setting) (w : World) (sound : IsSound s w) where
  points_match : (points : List ℕ) → ((t : ℕ) → In t points → IsPoint s w t) → AreRead s w.seen points → AllMatch s points
  points_match [] all read = tt
  points_match (t ∷ points) all read =
      let p = all t (inl refl) in (
        λ m is want h. sym (read.0 m want.cell is ((sound.faithful.minis t p.begun p.fresh.0).compared m want h))
            ∙ sound.stored.wanted m t p.fresh (p.committed m is) want h,
        points_match points (λ u h. all u (inr h)) read.1,
      )

  -- a point without a write item leaves the flat memory
  history_flat : (points : List ℕ) → ((t : ℕ) → In t points → IsPoint s w t) → (m a : ℕ) → flat s (history s points) m a ≡ flat s points m a
  history_flat [] all m a = refl
  history_flat (t ∷ points) all m a = go ((s.mini t).has_write) refl (history_flat points (λ u h. all u (inr h)) m a)
    where
      go : (b : Bool) → (s.mini t).has_write ≡ b → flat s (history s points) m a ≡ flat s points m a
          → flat s (history s (t ∷ points)) m a ≡ flat s (t ∷ points) m a
      go true is rest =
          ap (λ (x : Bool). flat s (cond x (t ∷ history s points) (history s points)) m a) is
          ∙ ap (unwrap_or ((s.mini t).writes m a)) rest
      go false is rest =
          ap (λ (x : Bool). flat s (cond x (t ∷ history s points) (history s points)) m a) is
          ∙ rest ∙ sym (ap (λ (x : Option ℕ). unwrap_or x (flat s points m a))
          ((sound.faithful.minis t (all t (inl refl)).begun (all t (inl refl)).fresh.0).quiet is m a))

  history_match : (points : List ℕ) → ((t : ℕ) → In t points → IsPoint s w t) → AllMatch s points → AllMatch s (history s points)
  history_match [] all match = tt
  history_match (t ∷ points) all match = go ((s.mini t).has_write) refl (history_match points (λ u h. all u (inr h)) match.1)
    where
      go : (b : Bool) → (s.mini t).has_write ≡ b → AllMatch s (history s points) → AllMatch s (history s (t ∷ points))
      go true is rest = subst (λ (x : Bool). AllMatch s (cond x (t ∷ history s points) (history s points))) (sym is)
          (λ m here want h. history_flat points (λ u k. all u (inr k)) m want.cell ∙ match.0 m here want h, rest)
      go false is rest = subst (λ (x : Bool). AllMatch s (cond x (t ∷ history s points) (history s points))) (sym is) rest

  -- what was read at a point
  read_behind : (later : List ℕ) (t : ℕ) (before : List ℕ) → AreRead s w.seen (later ++ t ∷ before) → (m a : ℕ) → In m (nodes_of s t) → In a (cells_of s t m)
      → w.seen t m a ≡ flat s before m a
  read_behind [] t before read = read.0
  read_behind (u ∷ later) t before read = read_behind later t before read.1

  -- no cell of an identifier that no lock is in the way of has a write to come
  look_flat : (m t a : ℕ) → ((u : ℕ) → IsOpen w.log m u → AreApart s m t u) → In a (cells_of s t m) → w.image m a ≡ flat s w.points m a
  look_flat m t a unlocked touched = sym (sound.stored.settled m a (λ u v p.
      unlocked u p.record_open a touched (pending_touched s w sound.faithful sound.stored m a u v p)))

pub points_are_matched : PointsMatch
points_are_matched s log image o events run =
    let w = after_all s (opened s log image) events in
    let sound = always_sound s log image o events run in
    points_match s w sound w.points sound.faithful.points sound.stored.read

pub history_is_flat : HistoryIsFlat
history_is_flat s log image o events run =
    let w = after_all s (opened s log image) events in
    let sound = always_sound s log image o events run in (
      λ later before split. history_flat s w sound before (λ t h. sound.faithful.points t (subst (In t) (sym split) (in_back t later before h))),
      history_match s w sound w.points sound.faithful.points (points_match s w sound w.points sound.faithful.points sound.stored.read),
    )

-- ---- the order of points

trade : (x y : Option ℕ) (v : ℕ) → ((b c : ℕ) → x ≡ Some b → y ≡ Some c → ⊥) → unwrap_or x (unwrap_or y v) ≡ unwrap_or y (unwrap_or x v)
trade None y v apart = refl
trade (Some b) None v apart = refl
trade (Some b) (Some c) v apart = absurd (apart b c refl refl)

pub open_points_trade : OpenPointsTrade
open_points_trade s log image o events run t u fresh_t fresh_u differ begun_t begun_u open_t open_u points m a =
    let w = after_all s (opened s log image) events in
    let sound = always_sound s log image o events run in
    let write_t = (sound.faithful.minis t begun_t fresh_t.0).written m a in
    let write_u = (sound.faithful.minis u begun_u fresh_u.0).written m a in
    trade ((s.mini t).writes m a) ((s.mini u).writes m a) (flat s points m a) (λ b c is_t is_u.
    sound.stored.apart m t u fresh_t (open_t m (write_t b is_t).0) (open_u m (write_u c is_u).0) differ a (write_t b is_t).1 (write_u c is_u).1)

-- ---- reads and images

-- functions that agree on the elements of a list
map_same : (f g : ℕ → ℕ) (xs : List ℕ) → ((x : ℕ) → In x xs → f x ≡ g x) → map f xs ≡ map g xs
map_same f g [] same = refl
map_same f g (x ∷ xs) same =
    ap (λ (y : ℕ). y ∷ map f xs) (same x (inl refl)) ∙ ap (λ (ys : List ℕ). g x ∷ ys) (map_same f g xs (λ y h. same y (inr h)))

-- the read items find the same where the touched cells hold the same
reads_same : (s : Setting) (t m : ℕ) → IsMini (s.mini t) → (f g : ℕ → ℕ) → ((a : ℕ) → In a (cells_of s t m) → f a ≡ g a) → reads_of s t m f ≡ reads_of s t m g
reads_same s t m mini f g same = go ((s.mini t).reads m) (λ item is. is)
  where
    go : (items : List (List ℕ)) → ((item : List ℕ) → In item items → In item ((s.mini t).reads m)) → map (map f) items ≡ map (map g) items
    go [] all = refl
    go (item ∷ items) all =
        ap (λ (x : List ℕ). x ∷ map (map f) items) (map_same f g item (λ a h. same a (mini.read m a item (all item (inl refl)) h)))
        ∙ ap (λ (xs : List (List ℕ)). map g item ∷ xs) (go items (λ x h. all x (inr h)))

pub reads_are_flat : ReadsAreFlat
reads_are_flat s log image o events run m t bytes posted is later before split =
    let w = after_all s (opened s log image) events in
    let sound = always_sound s log image o events run in
    let promise = sound.faithful.promises (Granted m t bytes) posted in
    promise.3 ∙ reads_same s t m (sound.faithful.minis t promise.0 promise.1.0) (w.seen t m) (flat s before m) (λ a touched.
    read_behind s w sound later t before (subst (AreRead s w.seen) split sound.stored.read) m a is touched)

pub looks_are_flat : LooksAreFlat
looks_are_flat s log image o events run m t bytes may =
    let w = after_all s (opened s log image) events in
    let sound = always_sound s log image o events run in
    let mini = sound.faithful.minis t may.0.0 may.0.1.0 in
    let same : (a : ℕ) → In a (cells_of s t m) → w.image m a ≡ flat s w.points m a = (λ a touched. look_flat s w sound m t a may.1.unlocked touched) in (
      may.1.now ∙ reads_same s t m mini (w.image m) (flat s w.points m) same,
      λ want h. sym (same want.cell (mini.compared m want h)) ∙ may.1.matching want h,
    )

-- a message that is posted after an event was posted before, or by it
pub posted_by : (s : Setting) (w : World) (e : Event) (p : Message) → In p (after s w e).posted → In p w.posted ⊎ (e ≡ Posts p)
posted_by s w (Begins t) p h = inl h
posted_by s w (Grants m t) p h = inl h
posted_by s w (Completes m t) p h = inl h
posted_by s w (Refuses m t why) p h = inl h
posted_by s w (Commits m t) p h = inl h
posted_by s w (Aborts m t) p h = inl h
posted_by s w (Forgets m t) p h = inl h
posted_by s w (Posts q) p h = elim h [ inl is ↦ inr (ap Posts (sym is)) | inr before ↦ inl before ]

posted_when : (s : Setting) (w : World) (events : List Event) (p : Message) → In p (after_all s w events).posted
    → In p w.posted ⊎ ((first : List Event) × (rest : List Event) × (events ≡ first ++ Posts p ∷ rest))
posted_when s w [] p h = inl h
posted_when s w (e ∷ events) p h = elim (posted_when s (after s w e) events p h) [
  | inl before ↦ elim (posted_by s w e p before) [ inl old ↦ inl old | inr now ↦ inr ([], events, ap (λ (x : Event). x ∷ events) now) ]
  | inr it ↦ inr (e ∷ it.0, it.1, ap (λ (x : List Event). e ∷ x) it.2)
]

-- the first events of a run are a run, and the next one may happen there
run_first : (s : Setting) (w : World) (first : List Event) (e : Event) (rest : List Event) → IsRun s w (first ++ e ∷ rest)
    → IsRun s w first × May s (after_all s w first) e
run_first s w [] e rest run = (tt, run.0)
run_first s w (x ∷ first) e rest run = let it = run_first s (after s w x) first e rest run.1 in ((run.0, it.0), it.1)

pub beginnings_are_new : BeginningsAreNew
beginnings_are_new s w events run first rest t split h =
    let it = run_first s w first (Begins t) rest (subst (IsRun s w) split run) in
    let below = it.1.0 t h refl in
    omega (arith, below)

-- a message that stands behind others was there before, or was posted when these were all
abbrev pub IsAtItsEvent : Setting → World → List Event → Message → List Message → Type 0
IsAtItsEvent s w events p before =
    ((later : List Message) × (w.posted ≡ later ++ p ∷ before))
    ⊎ ((first : List Event) × (rest : List Event) × (events ≡ first ++ Posts p ∷ rest) × ((after_all s w first).posted ≡ before))

front_is : (q p : Message) (rest before : List Message) → ◌≡◌ {A = List Message} (q ∷ rest) (p ∷ before) → (q ≡ p) × (rest ≡ before)
front_is q p rest before e = (cc, cc)

at_event : (s : Setting) (w : World) (e : Event) (events : List Event) (p : Message) (later before : List Message)
    → (after s w e).posted ≡ later ++ p ∷ before → IsAtItsEvent s w (e ∷ events) p before
at_event s w (Begins t) events p later before h = inl (later, h)
at_event s w (Grants m t) events p later before h = inl (later, h)
at_event s w (Completes m t) events p later before h = inl (later, h)
at_event s w (Refuses m t why) events p later before h = inl (later, h)
at_event s w (Commits m t) events p later before h = inl (later, h)
at_event s w (Aborts m t) events p later before h = inl (later, h)
at_event s w (Forgets m t) events p later before h = inl (later, h)
at_event s w (Posts q) events p [] before h =
    let both = front_is q p w.posted before h in inr ([], events, ap (λ (x : Message). Posts x ∷ events) both.0, both.1)
at_event s w (Posts q) events p (x ∷ later) before h = inl (later, (front_is q x w.posted (later ++ p ∷ before) h).1)

pub posted_at : (s : Setting) (w : World) (events : List Event) (p : Message) (later before : List Message)
    → (after_all s w events).posted ≡ later ++ p ∷ before → IsAtItsEvent s w events p before
posted_at s w [] p later before h = inl (later, h)
posted_at s w (e ∷ events) p later before h = elim (posted_at s (after s w e) events p later before h) [
  | inl there ↦ at_event s w e events p there.0 before there.1
  | inr it ↦ inr (e ∷ it.0, it.1, ap (λ (x : List Event). e ∷ x) it.2, it.3)
]

nothing_there : (p : Message) (later before : List Message) → ◌≡◌ {A = List Message} [] (later ++ p ∷ before) → ⊥
nothing_there p [] before e = cc
nothing_there p (x ∷ later) before e = cc

pub looks_had_their_moment : LooksHadTheirMoment
looks_had_their_moment s log image o events run m t bytes later before posted = elim (posted_at s (opened s log image) events (Looked m t bytes) later before posted) [
  | inl none ↦ absurd (nothing_there (Looked m t bytes) none.0 before none.1)
  | inr it ↦
      let first = run_first s (opened s log image) it.0 (Posts (Looked m t bytes)) it.1 (subst (IsRun s (opened s log image)) it.2 run) in
      let flat_there = looks_are_flat s log image o it.0 first.0 m t bytes first.1 in
      (it.0, it.1, it.2, it.3, flat_there.0, flat_there.1)
]

-- ---- why a vote was refused

-- a refusal that is in the log after an event was there before, or is appended by it
pub refused_by : (s : Setting) (w : World) (e : Event) (m t : ℕ) (why : Reason) → In (At m (Refuse t why)) (after s w e).log
    → In (At m (Refuse t why)) w.log ⊎ (e ≡ Refuses m t why)
refused_by s w (Begins u) m t why h = inl h
refused_by s w (Grants n u) m t why h = elim h [ inl is ↦ absurd (let e = one_record m n (Refuse t why) _ is in cc) | inr before ↦ inl before ]
refused_by s w (Completes n u) m t why h = elim h [ inl is ↦ absurd (let e = one_record m n (Refuse t why) _ is in cc) | inr before ↦ inl before ]
refused_by s w (Refuses n u other) m t why h = elim h [ inl is ↦ inr (sym (one m t why n u other is)) | inr before ↦ inl before ]
  where
    one : (m t : ℕ) (why : Reason) (n u : ℕ) (other : Reason) → At m (Refuse t why) ≡ At n (Refuse u other) → Refuses m t why ≡ Refuses n u other
    one m t why n u other e = cc
refused_by s w (Commits n u) m t why h = elim h [ inl is ↦ absurd (let e = one_record m n (Refuse t why) _ is in cc) | inr before ↦ inl before ]
refused_by s w (Aborts n u) m t why h = elim h [ inl is ↦ absurd (let e = one_record m n (Refuse t why) _ is in cc) | inr before ↦ inl before ]
refused_by s w (Forgets n u) m t why h = elim h [ inl is ↦ absurd (let e = one_record m n (Refuse t why) _ is in cc) | inr before ↦ inl before ]
refused_by s w (Posts p) m t why h = inl h

refused_when : (s : Setting) (w : World) (events : List Event) (m t : ℕ) (why : Reason) → In (At m (Refuse t why)) (after_all s w events).log
    → In (At m (Refuse t why)) w.log ⊎ ((first : List Event) × (rest : List Event) × (events ≡ first ++ Refuses m t why ∷ rest))
refused_when s w [] m t why h = inl h
refused_when s w (e ∷ events) m t why h = elim (refused_when s (after s w e) events m t why h) [
  | inl before ↦ elim (refused_by s w e m t why before) [ inl old ↦ inl old | inr now ↦ inr ([], events, ap (λ (x : Event). x ∷ events) now) ]
  | inr it ↦ inr (e ∷ it.0, it.1, ap (λ (x : List Event). e ∷ x) it.2)
]

-- the first cell that differs is the same one where the compared cells hold the same
differs_same : (wants : List Want) (f g : ℕ → ℕ) (item : ℕ) → ((want : Want) → In want wants → f want.cell ≡ g want.cell) → DiffersAt wants f item → DiffersAt wants g item
differs_same [] f g item same h = h
differs_same (want ∷ wants) f g item same h = elim h [
  | inl here ↦ inl (λ e. here.0 (same want (inl refl) ∙ e), here.1)
  | inr rest ↦ inr (sym (same want (inl refl)) ∙ rest.0, differs_same wants f g item (λ x k. same x (inr k)) rest.1)
]

module _ (s : Setting) (w : World) (sound : IsSound s w) (m t : ℕ) (begun : In t w.begun) (live : IsLive s t) where
  reason_flat : (why : Reason) → HasReason s w m t why → HasFlatReason s w m t why
  reason_flat (Forced floor) h = h
  reason_flat (Held cut) h = h
  reason_flat (Locked holder) h = h
  reason_flat (Mismatch item) h =
      differs_same ((s.mini t).wants m) (w.image m) (flat s w.points m) item
      (λ want k. look_flat s w sound m t want.cell h.0 ((sound.faithful.minis t begun live).compared m want k)) h.1

-- the events of a part of a run, in the run
longer : (events first : List Event) (e : Event) (rest more : List Event) (f : Event) (after : List Event)
    → events ≡ first ++ f ∷ after → first ≡ more ++ e ∷ rest → events ≡ more ++ e ∷ (rest ++ f ∷ after)
longer events first e rest more f after split part =
    split ∙ ap (λ (x : List Event). x ++ f ∷ after) part ∙ append_assoc more (e ∷ rest) (f ∷ after)

pub refusals_had_their_reason : RefusalsHadTheirReason
refusals_had_their_reason s log image o events run m t why posted = elim (posted_when s (opened s log image) events (Refused m t why) posted) [
  | inl none ↦ absurd none
  | inr it ↦ at_post it.0 it.1 it.2 (run_first s (opened s log image) it.0 (Posts (Refused m t why)) it.1 (subst (IsRun s (opened s log image)) it.2 run))
]
  where
    opens : World
    opens = opened s log image

    at_post : (first rest : List Event) → events ≡ first ++ Posts (Refused m t why) ∷ rest
        → IsRun s opens first × May s (after_all s opens first) (Posts (Refused m t why)) → WasCast s opens events m t why
    at_post first rest split part = elim part.1.1 [
      | inl entry ↦ elim (refused_when s opens first m t why entry) [
        | inl found ↦ absurd (part.1.0.1.1 (live_found s log image o t (known_begun s log image o m (Refuse t why) found) part.1.0.1.0))
        | inr at ↦
            let before = run_first s opens at.0 (Refuses m t why) at.1 (subst (IsRun s opens) at.2 part.0) in
            record {
              first = at.0;
              cast = Refuses m t why;
              rest = at.1 ++ Posts (Refused m t why) ∷ rest;
              split = longer events first (Refuses m t why) at.1 at.0 (Posts (Refused m t why)) rest split at.2;
              kind = inl refl;
              reason = reason_flat s (after_all s opens at.0) (always_sound s log image o at.0 before.0) m t before.1.0 part.1.0.1.0 why before.1.2;
            }
      ]
      | inr now ↦ record {
        first = first;
        cast = Posts (Refused m t why);
        rest = rest;
        split = split;
        kind = inr refl;
        reason = reason_flat s (after_all s opens first) (always_sound s log image o first part.0) m t part.1.0.0 part.1.0.1.0 why now;
      }
    ]

-- ---- what a run adds

append_more : {A : Type 0} (u v w new more : List A) → v ≡ new ++ u → w ≡ more ++ v → w ≡ (more ++ new) ++ u
append_more u v w new more first second = second ∙ ap (λ x. more ++ x) first ∙ sym (append_assoc more new u)

added_trans : (u v w : World) → HasAdded u v → HasAdded v w → HasAdded u w
added_trans u v w g h = record {
  begun = (h.begun.0 ++ g.begun.0, append_more u.begun v.begun w.begun g.begun.0 h.begun.0 g.begun.1 h.begun.1);
  log = (h.log.0 ++ g.log.0, append_more u.log v.log w.log g.log.0 h.log.0 g.log.1 h.log.1);
  points = (h.points.0 ++ g.points.0, append_more u.points v.points w.points g.points.0 h.points.0 g.points.1 h.points.1);
  posted = (h.posted.0 ++ g.posted.0, append_more u.posted v.posted w.posted g.posted.0 h.posted.0 g.posted.1 h.posted.1);
}

added_after : (s : Setting) (w : World) (e : Event) → HasAdded w (after s w e)
added_after s w (Begins t) = record { begun = (t ∷ [], refl); log = ([], refl); points = ([], refl); posted = ([], refl) }
added_after s w (Grants m t) = record { begun = ([], refl); log = (At m (Grant t) ∷ [], refl); points = ([], refl); posted = ([], refl) }
added_after s w (Completes m t) = record { begun = ([], refl); log = (At m (Grant t) ∷ [], refl); points = (t ∷ [], refl); posted = ([], refl) }
added_after s w (Refuses m t why) = record { begun = ([], refl); log = (At m (Refuse t why) ∷ [], refl); points = ([], refl); posted = ([], refl) }
added_after s w (Commits m t) = record { begun = ([], refl); log = (At m (Commit t) ∷ [], refl); points = ([], refl); posted = ([], refl) }
added_after s w (Aborts m t) = record { begun = ([], refl); log = (At m (Abort t) ∷ [], refl); points = ([], refl); posted = ([], refl) }
added_after s w (Forgets m t) = record { begun = ([], refl); log = (At m (Forget t) ∷ [], refl); points = ([], refl); posted = ([], refl) }
added_after s w (Posts p) = record { begun = ([], refl); log = ([], refl); points = ([], refl); posted = (p ∷ [], refl) }

pub runs_only_add : RunsOnlyAdd
runs_only_add s w [] = record { begun = ([], refl); log = ([], refl); points = ([], refl); posted = ([], refl) }
runs_only_add s w (e ∷ events) = added_trans w (after s w e) (after_all s (after s w e) events) (added_after s w e) (runs_only_add s (after s w e) events)

pub named_was_begun : NamedWasBegun
named_was_begun s log image o events run = (always_sound s log image o events run).faithful.known

pub images_are_flat : ImagesAreFlat
images_are_flat s log image o events run m a =
    let stored = (always_sound s log image o events run).stored in
    (stored.pending m a, stored.settled m a)

pub unlocked_is_flat : UnlockedIsFlat
unlocked_is_flat s log image o events run m a unlocked =
    let w = after_all s (opened s log image) events in
    let sound = always_sound s log image o events run in
    sym (sound.stored.settled m a (λ t v p. unlocked t p.record_open (pending_touched s w sound.faithful sound.stored m a t v p)))
