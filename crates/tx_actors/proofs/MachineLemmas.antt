-- Every state that the actors reach is reached by a run of the rules.
use Rattle.std.proofs.Common.{◌≡◌, ℕ, ◌<◌, ◌≤◌, nat_le, ◌==◌, Bool, true, false, cond, List, [], ◌∷◌, ◌++◌, map, length, Option, Some, None, ◌⊎◌, inl, inr, refl, sym, ap, ◌∙◌, subst, arith}
use Rattle.std.proofs.lemmas.Bool.{eqb-true, eqb-false, leb-true}
use Rattle.tx_rules.specs.Mini.{In, Memory, IsMini, Setting, IsLive, IsFresh}
use Rattle.tx_rules.specs.Decision.{Entry}
use Rattle.tx_rules.specs.World.{Message, Prepare, Granted, Looked, Refused, DecideCommit, DecideAbort, Done, Forgotten, ListKept, Kept, Ask, AnswerOk, AnswerAbort, World, Promises, IsNew, Event, Begins, Posts, May, IsRun, after_all}
use Rattle.tx_rules.specs.Opening.{IsOpening}
use Rattle.tx_rules.proofs.FaithfulLemmas.{new_not_begun}
use Rattle.tx_rules.proofs.SoundLemmas.{IsSound, sound_after_all, sound_opening}
use Rattle.tx_actors.specs.Node.{view, Reaction, handle}
use Rattle.tx_actors.specs.Coordinator.{Running, Outcome, Act, may_begin, begin}
use Rattle.tx_actors.specs.Manager.{Work, Deed, learn, resend_manager}
use Rattle.tx_actors.specs.Machine.{appending, reacts, State, numbered, Input, Begin, ToNode, ToStoppingNode, ToCoordinator, ToManager, GiveUp, Resend, BootCoordinator, BootNode, Sweep, ResendManager, BootManager, Move, idle, acts, works, to_node, to_coordinator, to_manager, move, step, steps, events_of, opened_at, IsAboveKnown}
use Rattle.tx_actors.specs.Laws.{IsFitting, OutcomeStands}
use Rattle.tx_actors.proofs.NodeLemmas.{run_append, after_append, reacts_run, handle_good}
use Rattle.tx_actors.proofs.TestLemmas.{some_is}
use Rattle.tx_actors.proofs.FitLemmas.{IsLater, later_all, begun_all, posts_begin, appending_begins, MayPost, posts_run, FitsRunning, FitsCoordinator, FitsWork, finishing_later, coordinator_later, work_later, outcome_later, IsFine, IsFineDeed}
use Rattle.tx_actors.proofs.CoordinatorLemmas.{give_up_fine, new_boot_fine, resend_fine, hear_granted_fine, hear_refused_fine, hear_done_fine}
use Rattle.tx_actors.proofs.ManagerLemmas.{learn_fine, resend_manager_fine}

pub record IsFit (s : Setting) (st : State) : Type 0 where
  pub sound : IsSound s st.world
  pub coordinator : (c : ℕ) → FitsCoordinator s st.world c (st.coordinator c)
  pub manager : (x : Work) → In x st.manager → FitsWork s st.world x
  pub outcomes : (o : Outcome) → In o st.outcomes → OutcomeStands s st.world o

-- the state that a move leads to
abbrev pub moved : Setting → State → Move → State
moved s st m = record { world = after_all s st.world m.events; coordinator = m.coordinator; manager = m.manager; outcomes = m.outcomes }

abbrev pub MovesWell : Setting → State → Move → Type 0
MovesWell s st m = IsRun s st.world m.events × IsFit s (moved s st m)

-- a numbered message was posted
pub numbered-In : (posted : List Message) (k : ℕ) (p : Message) → numbered posted k ≡ Some p → In p posted
numbered-In [] k p h = absurd cc
numbered-In (q ∷ posted) k p h = go (length posted == k) (numbered-In posted k p) h
  where
    go : (b : Bool) → (numbered posted k ≡ Some p → In p posted) → cond b (Some q) (numbered posted k) ≡ Some p → (p ≡ q) ⊎ In p posted
    go true rest e = inl (sym (some_is q p e))
    go false rest e = inr (rest e)

module _ (s : Setting) (st : State) (fit : IsFit s st) where
  -- events that begin nothing, and the actors left as they are
  idle_well : (events : List Event) → IsRun s st.world events
      → ((u : ℕ) → In u (after_all s st.world events).begun → In u st.world.begun)
      → MovesWell s st (record (idle st) { events = events })
  idle_well events run back =
      let v = after_all s st.world events in
      let l = later_all s st.world events run in (
        run,
        record {
          sound = sound_after_all s st.world events run fit.sound;
          coordinator = λ c. coordinator_later s st.world v l c (st.coordinator c) (λ u h same. back u h) (fit.coordinator c);
          manager = λ x h. work_later s st.world v l x (fit.manager x h);
          outcomes = λ o h. outcome_later s st.world v l o (fit.outcomes o h);
        },
      )

  still : MovesWell s st (idle st)
  still = idle_well [] tt (λ u h. h)

  -- a memory node
  react_begins : (m : ℕ) (stops : Bool) (a : Reaction) (u : ℕ) → In u (after_all s st.world (reacts s st.world m stops a)).begun → In u st.world.begun
  react_begins m stops a u h = appending_begins s st.world m a.appends u (rest stops (subst (λ (x : World). In u x.begun)
      (after_append s st.world (appending s st.world m a.appends) (cond stops [] (map Posts a.posts))) h))
    where
      rest : (b : Bool) → In u (after_all s (after_all s st.world (appending s st.world m a.appends)) (cond b [] (map Posts a.posts))).begun
          → In u (after_all s st.world (appending s st.world m a.appends)).begun
      rest true k = k
      rest false k = posts_begin s (after_all s st.world (appending s st.world m a.appends)) a.posts u k

  to_node_well : (m : ℕ) (held : Option ℕ) (stops : Bool) (o : Option Message) → ((p : Message) → o ≡ Some p → In p st.world.posted) → MovesWell s st (to_node s st m held stops o)
  to_node_well m held stops None all = still
  to_node_well m held stops (Some p) all =
      let a = handle s m held (view st.world m) p in
      idle_well (reacts s st.world m stops a)
      (reacts_run s st.world fit.sound m a stops (handle_good s st.world fit.sound m held p (all p refl) (fit.sound.faithful.promises p (all p refl))))
      (react_begins m stops a)

  -- a coordinator
  acts_well : (c : ℕ) (a : Act) → IsFine s st.world c a → MovesWell s st (acts st c [] a)
  acts_well c a fine =
      let events = map Posts a.posts in
      let run = posts_run s st.world a.posts fine.posts in
      let v = after_all s st.world events in
      let l = later_all s st.world events run in (
        run,
        record {
          sound = sound_after_all s st.world events run fit.sound;
          coordinator = λ d. one v l d (d == c) refl;
          manager = λ x h. work_later s st.world v l x (fit.manager x h);
          outcomes = λ o h. outcome_later s st.world v l o (ends o a.ends fine.ends h);
        },
      )
    where
      one : (v : World) → IsLater s st.world (after_all s st.world (map Posts a.posts)) → (d : ℕ) (b : Bool) → (d == c) ≡ b
          → FitsCoordinator s (after_all s st.world (map Posts a.posts)) d (cond b a.now (st.coordinator d))
      one v l d true is = coordinator_later s st.world _ l d a.now (λ u h same. posts_begin s st.world a.posts u h)
          (subst (λ k. FitsCoordinator s st.world k a.now) (sym (eqb-true d c is)) fine.now)
      one v l d false is = coordinator_later s st.world _ l d (st.coordinator d) (λ u h same. posts_begin s st.world a.posts u h) (fit.coordinator d)

      ends : (o : Outcome) (new : List Outcome) → ((q : Outcome) → In q new → OutcomeStands s st.world q) → In o (new ++ st.outcomes) → OutcomeStands s st.world o
      ends o [] all h = fit.outcomes o h
      ends o (q ∷ new) all h = elim h [
        | inl e ↦ subst (OutcomeStands s st.world) (sym e) (all q (inl refl))
        | inr rest ↦ ends o new (λ r k. all r (inr k)) rest
      ]

  hears_well : (p : Message) → In p st.world.posted → Promises s st.world p → MovesWell s st (to_coordinator s st (Some p))
  hears_well (Granted m t bytes) posted promise = let c = s.coord t in
      acts_well c _ (hear_granted_fine s st.world fit.sound.faithful c (st.coordinator c) (fit.coordinator c) m t bytes (st.coordinator c).running refl (inl posted))
  hears_well (Looked m t bytes) posted promise = let c = s.coord t in
      acts_well c _ (hear_granted_fine s st.world fit.sound.faithful c (st.coordinator c) (fit.coordinator c) m t bytes (st.coordinator c).running refl (inr posted))
  hears_well (Refused m t why) posted promise = let c = s.coord t in
      acts_well c _ (hear_refused_fine s st.world fit.sound.faithful c (st.coordinator c) (fit.coordinator c) m t why (st.coordinator c).running refl posted)
  hears_well (Done m t) posted promise = let c = s.coord t in
      acts_well c _ (hear_done_fine s st.world fit.sound.faithful c (st.coordinator c) (fit.coordinator c) m t promise)
  hears_well (Prepare t) posted promise = still
  hears_well (DecideCommit t) posted promise = still
  hears_well (DecideAbort t) posted promise = still
  hears_well (Forgotten t) posted promise = still
  hears_well ListKept posted promise = still
  hears_well (Kept m ts) posted promise = still
  hears_well (Ask t) posted promise = still
  hears_well (AnswerOk m t) posted promise = still
  hears_well (AnswerAbort m t) posted promise = still

  to_coordinator_well : (o : Option Message) → ((p : Message) → o ≡ Some p → In p st.world.posted) → MovesWell s st (to_coordinator s st o)
  to_coordinator_well None all = still
  to_coordinator_well (Some p) all = hears_well p (all p refl) (fit.sound.faithful.promises p (all p refl))

  -- the manager
  works_well : (d : Deed) → IsFineDeed s st.world d → MovesWell s st (works st d)
  works_well d fine =
      let events = map Posts d.posts in
      let run = posts_run s st.world d.posts fine.posts in
      let v = after_all s st.world events in
      let l = later_all s st.world events run in (
        run,
        record {
          sound = sound_after_all s st.world events run fit.sound;
          coordinator = λ c. coordinator_later s st.world v l c (st.coordinator c) (λ u h same. posts_begin s st.world d.posts u h) (fit.coordinator c);
          manager = λ x h. work_later s st.world v l x (fine.now x h);
          outcomes = λ o h. outcome_later s st.world v l o (fit.outcomes o h);
        },
      )

  to_manager_well : (o : Option Message) → ((p : Message) → o ≡ Some p → Promises s st.world p) → MovesWell s st (to_manager s st o)
  to_manager_well None all = still
  to_manager_well (Some p) all = works_well (learn st.manager p) (learn_fine s st.world st.manager p fit.manager (all p refl))

  -- an identifier begins
  begin_well : (t : ℕ) → (st.coordinator (s.coord t)).next ≤ t → IsMini (s.mini t)
      → MovesWell s st (acts st (s.coord t) (Begins t ∷ []) (begin (st.coordinator (s.coord t)) t))
  begin_well t low mini =
      let c = s.coord t in
      let w = st.world in
      let f = fit.sound.faithful in
      let new : IsNew s w t = (λ u h same. let below = (fit.coordinator c).next u h same in omega (arith, below, low)) in
      let may : May s w (Begins t) = (new, mini) in
      let stale : (ts : List ℕ) → ((u : ℕ) → In u ts → In u w.begun) → ¬ In t ts = (λ ts all h. new_not_begun s w f t new (all t h)) in
      let fresh : IsFresh s t = (stale s.old f.old, stale s.found (λ u h. (f.found u h).0)) in
      let events : List Event = Begins t ∷ Posts (Prepare t) ∷ [] in
      let run : IsRun s w events = (may, (((inl refl, fresh), tt), tt)) in
      let v = after_all s w events in
      let l = later_all s w events run in
      let now : FitsCoordinator s v c (begin (st.coordinator c) t).now = record {
        running = λ r is. subst (FitsRunning s v c) (some_is (record { id = t; votes = [] }) r is) (record {
          begun = inl refl;
          fresh = fresh;
          here = refl;
          newest = λ u h same. elim h [ inl e ↦ omega (arith, e) | inr before ↦ (let below = new u before same in omega (arith, below)) ];
          votes = λ y h. absurd h;
        });
        finishing = λ g h. finishing_later s w v l g ((fit.coordinator c).finishing g h);
        next = λ u h same. elim h [ inl e ↦ omega (arith, e) | inr before ↦ (let below = new u before same in omega (arith, below)) ];
      } in (
        run,
        record {
          sound = sound_after_all s w events run fit.sound;
          coordinator = λ d. one v l now d (d == c) refl;
          manager = λ x h. work_later s w v l x (fit.manager x h);
          outcomes = λ o h. outcome_later s w v l o (fit.outcomes o h);
        },
      )
    where
      one : (v : World) → (l : IsLater s st.world (after_all s st.world (Begins t ∷ Posts (Prepare t) ∷ [])))
          → FitsCoordinator s (after_all s st.world (Begins t ∷ Posts (Prepare t) ∷ [])) (s.coord t) (begin (st.coordinator (s.coord t)) t).now
          → (d : ℕ) (b : Bool) → (d == s.coord t) ≡ b
          → FitsCoordinator s (after_all s st.world (Begins t ∷ Posts (Prepare t) ∷ [])) d (cond b (begin (st.coordinator (s.coord t)) t).now (st.coordinator d))
      one v l now d true is = subst (λ k. FitsCoordinator s (after_all s st.world (Begins t ∷ Posts (Prepare t) ∷ [])) k (begin (st.coordinator (s.coord t)) t).now) (sym (eqb-true d (s.coord t) is)) now
      one v l now d false is = coordinator_later s st.world _ l d (st.coordinator d) (λ u h same. elim h [
        | inl e ↦ absurd (eqb-false d (s.coord t) is (sym same ∙ ap s.coord e))
        | inr before ↦ before
      ]) (fit.coordinator d)

  begins_well : (t : ℕ) (o : Option Running) → (st.coordinator (s.coord t)).running ≡ o
      → (In t (after_all s st.world (cond (may_begin (st.coordinator (s.coord t)) t o) (acts st (s.coord t) (Begins t ∷ []) (begin (st.coordinator (s.coord t)) t)) (idle st)).events).begun → IsLive s t → IsMini (s.mini t))
      → MovesWell s st (cond (may_begin (st.coordinator (s.coord t)) t o) (acts st (s.coord t) (Begins t ∷ []) (begin (st.coordinator (s.coord t)) t)) (idle st))
  begins_well t (Some r) is fitting = still
  begins_well t None is fitting = go (nat_le (st.coordinator (s.coord t)).next t) refl fitting
    where
      go : (b : Bool) → nat_le (st.coordinator (s.coord t)).next t ≡ b
          → (In t (after_all s st.world (cond b (acts st (s.coord t) (Begins t ∷ []) (begin (st.coordinator (s.coord t)) t)) (idle st)).events).begun → IsLive s t → IsMini (s.mini t))
          → MovesWell s st (cond b (acts st (s.coord t) (Begins t ∷ []) (begin (st.coordinator (s.coord t)) t)) (idle st))
      go true low fitting = begin_well t (leb-true (st.coordinator (s.coord t)).next t low) (fitting (inl refl) (λ h.
          let below = (fit.coordinator (s.coord t)).next t (fit.sound.faithful.old t h) refl in
          let above = leb-true (st.coordinator (s.coord t)).next t low in omega (arith, below, above)))
      go false low fitting = still

  -- any input
  pub move_well : (input : Input) → IsFitting s (step s st input).world → MovesWell s st (move s st input)
  move_well (Begin t) fitting = begins_well t (st.coordinator (s.coord t)).running refl (λ h live. fitting t h live)
  move_well (ToNode k m held) fitting =
      to_node_well m held false (numbered st.world.posted k) (λ p is. numbered-In st.world.posted k p is)
  move_well (ToStoppingNode k m held) fitting =
      to_node_well m held true (numbered st.world.posted k) (λ p is. numbered-In st.world.posted k p is)
  move_well (ToCoordinator k) fitting = to_coordinator_well (numbered st.world.posted k) (λ p is. numbered-In st.world.posted k p is)
  move_well (ToManager k) fitting =
      to_manager_well (numbered st.world.posted k) (λ p is. fit.sound.faithful.promises p (numbered-In st.world.posted k p is))
  move_well (GiveUp c) fitting = acts_well c _ (give_up_fine s st.world fit.sound.faithful c (st.coordinator c) (fit.coordinator c))
  move_well (Resend c) fitting = acts_well c _ (resend_fine s st.world fit.sound.faithful c (st.coordinator c) (fit.coordinator c))
  move_well (BootCoordinator c) fitting = acts_well c _ (new_boot_fine s st.world fit.sound.faithful c (st.coordinator c) (fit.coordinator c))
  move_well (BootNode m) fitting = still
  move_well Sweep fitting = works_well (record { now = st.manager; posts = ListKept ∷ [] }) (record {
    now = fit.manager;
    posts = λ p h. elim h [ inl e ↦ subst (MayPost s st.world) (sym e) (tt, (tt, λ v. tt)) | inr none ↦ absurd none ];
  })
  move_well ResendManager fitting = works_well (record { now = st.manager; posts = resend_manager st.manager }) (resend_manager_fine s st.world st.manager fit.manager)
  move_well BootManager fitting = works_well (record { now = []; posts = [] }) (record { now = λ x h. absurd h; posts = λ p h. absurd h })

-- ---- all inputs

-- what was begun stays begun
pub begun_steps : (s : Setting) (st : State) (inputs : List Input) (t : ℕ) → In t st.world.begun → In t (steps s st inputs).world.begun
begun_steps s st [] t h = h
begun_steps s st (input ∷ inputs) t h = begun_steps s (step s st input) inputs t (begun_all s st.world (move s st input).events t h)

pub record IsReached (s : Setting) (st : State) (inputs : List Input) : Type 0 where
  pub run : IsRun s st.world (events_of s st inputs)
  pub world : (steps s st inputs).world ≡ after_all s st.world (events_of s st inputs)
  pub fit : IsFit s (steps s st inputs)

pub steps_reach : (s : Setting) (st : State) (inputs : List Input) → IsFit s st → IsFitting s (steps s st inputs).world → IsReached s st inputs
steps_reach s st [] fit fitting = record { run = tt; world = refl; fit = fit }
steps_reach s st (input ∷ inputs) fit fitting =
    let first = move_well s st fit input (λ t h live. fitting t (begun_steps s (step s st input) inputs t h) live) in
    let rest = steps_reach s (step s st input) inputs first.1 fitting in
    record {
      run = run_append s st.world (move s st input).events (events_of s (step s st input) inputs) first.0 rest.run;
      world = rest.world ∙ sym (after_append s st.world (move s st input).events (events_of s (step s st input) inputs));
      fit = rest.fit;
    }

-- ---- the opening

pub opening_fit : (s : Setting) (log : List Entry) (image : Memory) (next : ℕ → ℕ) → IsOpening s log image → IsAboveKnown s next → IsFit s (opened_at s log image next)
opening_fit s log image next o above = record {
  sound = sound_opening s log image o;
  coordinator = λ c. record {
    running = λ r e. absurd cc;
    finishing = λ g h. absurd h;
    next = λ u h same. subst (λ k. u < next k) same (above u h);
  };
  manager = λ x h. absurd h;
  outcomes = λ q h. absurd h;
}
