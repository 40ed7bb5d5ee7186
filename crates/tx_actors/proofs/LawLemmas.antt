-- The laws.
use Rattle.std.proofs.Common.{◌≡◌, ℕ, ◌+◌, ◌*◌, ◌/◌, ◌^◌, ◌<◌, ◌==◌, Bool, true, false, cond, List, [], ◌∷◌, ◌++◌, length, Option, Some, None, unwrap_or, inl, inr, refl, sym, ap, ◌∙◌, subst, arith, append_assoc}
use Rattle.std.proofs.lemmas.Bool.{eqb-true, eq-eqb, ne_eqb, cases_eq, cases_order, cases_Bool}
use Rattle.std.proofs.lemmas.Nat.{div-mul-add}
use Rattle.std.proofs.lemmas.List.{length-append}
use Rattle.tx_rules.specs.Mini.{In, is_logged, Setting, nodes_of, reads_of, flat, with_writes}
use Rattle.tx_rules.specs.Decision.{Record, Grant, Refuse, Commit, Abort, Forget, Entry, At, IsPassed}
use Rattle.tx_rules.specs.World.{Message, Prepare, Granted, Looked, Refused, DecideCommit, DecideAbort, Done, Forgotten, ListKept, Kept, Ask, AnswerOk, AnswerAbort, World, Event, Begins, Grants, Completes, Refuses, Commits, Aborts, Forgets, Posts, after}
use Rattle.tx_rules.proofs.FaithfulLemmas.{not_both, in_back}
use Rattle.tx_rules.proofs.LawLemmas.{reads_are_flat, looks_had_their_moment, refusals_had_their_reason}
use Rattle.tx_actors.specs.Node.{own, is_kept, Standing, Above, Same, Below, standing, replayed}
use Rattle.tx_actors.specs.Coordinator.{Outcome, Committed, Failed, may_begin, begin}
use Rattle.tx_actors.specs.Machine.{State, Input, Begin, ToNode, ToStoppingNode, ToCoordinator, ToManager, GiveUp, Resend, BootCoordinator, BootNode, Sweep, ResendManager, BootManager, numbered, idle, acts, to_node, to_coordinator, to_manager, step, steps, events_of, opened_at}
use Rattle.tx_actors.specs.Laws.{NumbersStay, StepsJoin, StatesAreRuns, LooksHaveTheirMoment, FailuresHadTheirReason, BegunIsBelow, LiveAreNamedByAll, OutcomesStand, OutcomesStay, FailedNeverCommits, CommittedReadsAreFlat, LooksOfOutcomesAreFlat, ReactionsAreAllowed, UndecidedIsOpen, AboveIsNotPassed, FloorsAreGreatest, RecordsAreKept, ImagesAreReplayed}
use Rattle.tx_actors.specs.Numbers.{identifier, IdentifiersAreOrdered, IdentifiersTellTheirCoordinator}
use Rattle.tx_actors.specs.Sample.{SampleEndsWell, MessagesMayDisagree}
use Rattle.tx_actors.proofs.TestLemmas.{some_is, not_two}
use Rattle.tx_actors.proofs.NodeLemmas.{handle_good}
use Rattle.tx_actors.proofs.RecordLemmas.{IsFloor, floor_is, kept_is, not_kept, kept_remembered, StandsSo, standing_is, cast_log, below_log, live_named, above_not_passed, open_is, is_open}
use Rattle.tx_actors.proofs.MachineLemmas.{steps_reach, opening_fit}

pub states_are_runs : StatesAreRuns
states_are_runs s log image next o above inputs fitting =
    let r = steps_reach s (opened_at s log image next) inputs (opening_fit s log image next o above) fitting in
    (r.run, r.world)

-- ---- outcomes

pub outcomes_stand : OutcomesStand
outcomes_stand s log image next o above inputs fitting =
    (steps_reach s (opened_at s log image next) inputs (opening_fit s log image next o above) fitting).fit.outcomes

pub failed_never_commits : FailedNeverCommits
failed_never_commits s log image next o above inputs fitting t m why ended committed =
    let st = steps s (opened_at s log image next) inputs in
    let fit = (steps_reach s (opened_at s log image next) inputs (opening_fit s log image next o above) fitting).fit in
    let stands = fit.outcomes (Failed t m why) ended in
    elim stands.2 [
      | inl aborted ↦ not_both s st.world.log t committed aborted
      | inr reader ↦
          let mini = fitting t stands.0 stands.1 in
          not_two (is_logged (s.mini t)) (fit.sound.faithful.stands mini.participant.0 (Grant t) (committed mini.participant.0 mini.participant.1) stands.1).1 reader
    ]

pub committed_reads_are_flat : CommittedReadsAreFlat
committed_reads_are_flat s log image next o above inputs fitting t votes ended logged later before split v counted =
    let st = steps s (opened_at s log image next) inputs in
    let r = steps_reach s (opened_at s log image next) inputs (opening_fit s log image next o above) fitting in
    let stands = r.fit.outcomes (Committed t votes) ended in
    let vote = stands.3 v counted in
    elim vote.1 [
      | inl posted ↦ subst
          (λ (w : World). (m u : ℕ) (bytes : List (List ℕ)) → In (Granted m u bytes) w.posted → In m (nodes_of s u)
          → (later before : List ℕ) → w.points ≡ later ++ u ∷ before → bytes ≡ reads_of s u m (flat s before m))
          (sym r.world) (reads_are_flat s log image o (events_of s (opened_at s log image next) inputs) r.run)
          v.0 t v.1 posted vote.0 later before split
      | inr posted ↦ absurd (not_two (is_logged (s.mini t)) logged (r.fit.sound.faithful.promises (Looked v.0 t v.1) posted).3)
    ]

-- an element of a list stands between others
in_split : (p : Message) (ps : List Message) → In p ps → (later before : List Message) × (ps ≡ later ++ p ∷ before)
in_split p [] h = absurd h
in_split p (q ∷ ps) h = elim h [
  | inl e ↦ ([], ps, ap (λ (x : Message). x ∷ ps) (sym e))
  | inr rest ↦ let it = in_split p ps rest in (q ∷ it.0, it.1, ap (λ (xs : List Message). q ∷ xs) it.2)
]

-- a message with a number stands before as many
numbered_split : (ps : List Message) (k : ℕ) (p : Message) → numbered ps k ≡ Some p → (later before : List Message) × (ps ≡ later ++ p ∷ before) × (length before ≡ k)
numbered_split [] k p h = absurd cc
numbered_split (q ∷ ps) k p h = go (length ps == k) refl (numbered_split ps k p) h
  where
    go : (b : Bool) → (length ps == k) ≡ b → (numbered ps k ≡ Some p → (later before : List Message) × (ps ≡ later ++ p ∷ before) × (length before ≡ k))
        → cond b (Some q) (numbered ps k) ≡ Some p → (later before : List Message) × (q ∷ ps ≡ later ++ p ∷ before) × (length before ≡ k)
    go true is rest e = ([], ps, ap (λ (x : Message). x ∷ ps) (some_is q p e), eqb-true (length ps) k is)
    go false is rest e = let it = rest e in (q ∷ it.0, it.1, ap (λ (xs : List Message). q ∷ xs) it.2, it.3)

-- a number that is given is below how many were posted
number_below : (ps : List Message) (k : ℕ) (p : Message) → numbered ps k ≡ Some p → k < length ps
number_below ps k p h =
    let it = numbered_split ps k p h in
    let size = ap (λ (xs : List Message). length xs) it.2 ∙ length-append it.0 (p ∷ it.1) in
    let here = it.3 in
    omega (arith, size, here)

pub numbers_stay : NumbersStay
numbers_stay [] posted k p h = h
numbers_stay (q ∷ later) posted k p h =
    let below = number_below posted k p h in
    let size = length-append later posted in
    ap (λ (b : Bool). cond b (Some q) (numbered (later ++ posted) k)) (ne_eqb (length (later ++ posted)) k (λ e. omega (arith, e, below, size)))
    ∙ numbers_stay later posted k p h

pub steps_join : StepsJoin
steps_join s st [] more = refl
steps_join s st (x ∷ first) more = steps_join s (step s st x) first more

pub looks_of_outcomes_are_flat : LooksOfOutcomesAreFlat
looks_of_outcomes_are_flat s log image next o above inputs fitting t votes ended reader v counted =
    let r = steps_reach s (opened_at s log image next) inputs (opening_fit s log image next o above) fitting in
    let stands = r.fit.outcomes (Committed t votes) ended in
    let vote = stands.3 v counted in
    elim vote.1 [
      | inl posted ↦
          let granted = (r.fit.sound.faithful.promises (Granted v.0 t v.1) posted).2 in
          absurd (not_two (is_logged (s.mini t)) (r.fit.sound.faithful.stands v.0 (Grant t) granted stands.1).1 reader)
      | inr posted ↦
          let at = in_split (Looked v.0 t v.1) _ posted in
          let it = looks_had_their_moment s log image o (events_of s (opened_at s log image next) inputs) r.run v.0 t v.1 at.0 at.1 (ap (λ (w : World). w.posted) (sym r.world) ∙ at.2) in
          (it.0, it.1, it.2, it.4, it.5)
    ]

pub looks_have_their_moment : LooksHaveTheirMoment
looks_have_their_moment s log image next o above inputs fitting k m t bytes is =
    let r = steps_reach s (opened_at s log image next) inputs (opening_fit s log image next o above) fitting in
    let at = numbered_split _ k (Looked m t bytes) is in
    let it = looks_had_their_moment s log image o (events_of s (opened_at s log image next) inputs) r.run m t bytes at.0 at.1 (ap (λ (w : World). w.posted) (sym r.world) ∙ at.2) in
    (it.0, it.1, it.2, ap (λ (ps : List Message). length ps) it.3 ∙ at.3, it.4, it.5)

pub failures_had_their_reason : FailuresHadTheirReason
failures_had_their_reason s log image next o above inputs fitting t m why ended =
    let r = steps_reach s (opened_at s log image next) inputs (opening_fit s log image next o above) fitting in
    let stands = r.fit.outcomes (Failed t m why) ended in
    refusals_had_their_reason s log image o (events_of s (opened_at s log image next) inputs) r.run m t why
    (subst (λ (w : World). In (Refused m t why) w.posted) r.world stands.4)

-- ---- numbers

pub begun_is_below : BegunIsBelow
begun_is_below s log image next o above inputs fitting t begun =
    ((steps_reach s (opened_at s log image next) inputs (opening_fit s log image next o above) fitting).fit.coordinator (s.coord t)).next t begun refl

pub live_are_named_by_all : LiveAreNamedByAll
live_are_named_by_all = live_named

pub reactions_are_allowed : ReactionsAreAllowed
reactions_are_allowed s log image next o above inputs fitting m held message posted =
    let st = steps s (opened_at s log image next) inputs in
    let r = steps_reach s (opened_at s log image next) inputs (opening_fit s log image next o above) fitting in
    (handle_good s st.world r.fit.sound m held message posted (r.fit.sound.faithful.promises message posted)).0

-- an input only adds outcomes
outcomes_after : (s : Setting) (st : State) (input : Input) (o : Outcome) → In o st.outcomes → In o (step s st input).outcomes
outcomes_after s st (Begin t) o h = go (may_begin (st.coordinator (s.coord t)) t (st.coordinator (s.coord t)).running)
  where
    go : (b : Bool) → In o (cond b (acts st (s.coord t) (Begins t ∷ []) (begin (st.coordinator (s.coord t)) t)) (idle st)).outcomes
    go true = h
    go false = h
outcomes_after s st (ToNode k m held) o h = node (numbered st.world.posted k)
  where
    node : (p : Option Message) → In o (to_node s st m held false p).outcomes
    node None = h
    node (Some p) = h
outcomes_after s st (ToStoppingNode k m held) o h = node (numbered st.world.posted k)
  where
    node : (p : Option Message) → In o (to_node s st m held true p).outcomes
    node None = h
    node (Some p) = h
outcomes_after s st (ToCoordinator k) o h = hears (numbered st.world.posted k)
  where
    hears : (p : Option Message) → In o (to_coordinator s st p).outcomes
    hears None = h
    hears (Some (Granted m t bytes)) = in_back o _ st.outcomes h
    hears (Some (Looked m t bytes)) = in_back o _ st.outcomes h
    hears (Some (Refused m t why)) = in_back o _ st.outcomes h
    hears (Some (Done m t)) = h
    hears (Some (Prepare t)) = h
    hears (Some (DecideCommit t)) = h
    hears (Some (DecideAbort t)) = h
    hears (Some (Forgotten t)) = h
    hears (Some ListKept) = h
    hears (Some (Kept m ts)) = h
    hears (Some (Ask t)) = h
    hears (Some (AnswerOk m t)) = h
    hears (Some (AnswerAbort m t)) = h
outcomes_after s st (ToManager k) o h = learns (numbered st.world.posted k)
  where
    learns : (p : Option Message) → In o (to_manager s st p).outcomes
    learns None = h
    learns (Some p) = h
outcomes_after s st (GiveUp c) o h = h
outcomes_after s st (Resend c) o h = h
outcomes_after s st (BootCoordinator c) o h = h
outcomes_after s st (BootNode m) o h = h
outcomes_after s st Sweep o h = h
outcomes_after s st ResendManager o h = h
outcomes_after s st BootManager o h = h

pub outcomes_stay : OutcomesStay
outcomes_stay s st [] o h = h
outcomes_stay s st (input ∷ inputs) o h = outcomes_stay s (step s st input) inputs o (outcomes_after s st input o h)

-- ---- the state that records make

pub undecided_is_open : UndecidedIsOpen
undecided_is_open log m t = (open_is log m t, is_open log m t)

pub above_is_not_passed : AboveIsNotPassed
above_is_not_passed s log m t = (
  λ is. above_not_passed s log m t (subst (StandsSo s (own m log) t) is (standing_is s (own m log) t)),
  λ above. only above (standing s (own m log) t) (standing_is s (own m log) t),
)
  where
    only : ¬ IsPassed s log m t → (x : Standing) → StandsSo s (own m log) t x → x ≡ Above
    only above Above is = refl
    only above (Same vote) is = absurd (above (record { by = t; cast = cast_log m vote t log is; same = refl; above = omega arith }))
    only above (Below floor) is =
        absurd (above (let below = below_log s log m t floor is in let less = below.above in record { by = floor; cast = below.cast; same = below.same; above = omega (arith, less) }))

pub floors_are_greatest : FloorsAreGreatest
floors_are_greatest s rs c = (
  λ none u vote h. subst (IsFloor s rs c) none (floor_is s rs c) u (vote, h),
  λ t vote is.
      let top = subst (IsFloor s rs c) is (floor_is s rs c) in
      (top.cast, top.same, λ u other h same. top.greatest u (other, h) same),
)

pub records_are_kept : RecordsAreKept
records_are_kept s log m t = (
  λ h. let k = kept_is s log m t h in (k.0, k.1, kept_remembered s log m t h),
  λ h. elim (cases_Bool (is_kept s m (own m log) t)) [
    | inl is ↦ is
    | inr gone ↦ absurd (h.2 (not_kept s log m t gone h.0 h.1))
  ],
)

-- ---- images

-- the entry that an event appends
added : Event → List Entry
added (Begins t) = []
added (Grants m t) = At m (Grant t) ∷ []
added (Completes m t) = At m (Grant t) ∷ []
added (Refuses m t why) = At m (Refuse t why) ∷ []
added (Commits m t) = At m (Commit t) ∷ []
added (Aborts m t) = At m (Abort t) ∷ []
added (Forgets m t) = At m (Forget t) ∷ []
added (Posts p) = []

added_log : (s : Setting) (w : World) (e : Event) → (after s w e).log ≡ added e ++ w.log
unfolding added
added_log s w (Begins t) = refl
added_log s w (Grants m t) = refl
added_log s w (Completes m t) = refl
added_log s w (Refuses m t why) = refl
added_log s w (Commits m t) = refl
added_log s w (Aborts m t) = refl
added_log s w (Forgets m t) = refl
added_log s w (Posts p) = refl

-- a record that is no commit leaves the image
plain_replayed : (s : Setting) (m n a : ℕ) (r : Record) (image : ℕ → ℕ) → ((t : ℕ) → ¬ (r ≡ Commit t)) → image a ≡ replayed s m (own m (At n r ∷ [])) image a
plain_replayed s m n a r image plain = go (n == m)
  where
    one : (q : Record) → ((t : ℕ) → ¬ (q ≡ Commit t)) → image a ≡ replayed s m (q ∷ []) image a
    one (Grant t) h = refl
    one (Refuse t why) h = refl
    one (Commit t) h = absurd (h t refl)
    one (Abort t) h = refl
    one (Forget t) h = refl

    go : (b : Bool) → image a ≡ replayed s m (cond b (r ∷ []) []) image a
    go true = one r plain
    go false = refl

added_image : (s : Setting) (w : World) (e : Event) (m a : ℕ) → (after s w e).image m a ≡ replayed s m (own m (added e)) (w.image m) a
unfolding added
added_image s w (Begins t) m a = refl
added_image s w (Grants n t) m a = plain_replayed s m n a (Grant t) (w.image m) (λ u e. absurd cc)
added_image s w (Completes n t) m a = plain_replayed s m n a (Grant t) (w.image m) (λ u e. absurd cc)
added_image s w (Refuses n t why) m a = plain_replayed s m n a (Refuse t why) (w.image m) (λ u e. absurd cc)
added_image s w (Commits n t) m a = elim (cases_eq n m) [
  | inl here ↦ ap (λ (b : Bool). cond b (with_writes s t w.image m) (w.image m) a) (eq-eqb m n (sym here))
      ∙ sym (ap (λ (b : Bool). replayed s m (cond b (Commit t ∷ []) []) (w.image m) a) (eq-eqb n m here))
  | inr other ↦ ap (λ (b : Bool). cond b (with_writes s t w.image m) (w.image m) a) (ne_eqb m n (λ e. other (sym e)))
      ∙ sym (ap (λ (b : Bool). replayed s m (cond b (Commit t ∷ []) []) (w.image m) a) (ne_eqb n m other))
]
added_image s w (Aborts n t) m a = plain_replayed s m n a (Abort t) (w.image m) (λ u e. absurd cc)
added_image s w (Forgets n t) m a = plain_replayed s m n a (Forget t) (w.image m) (λ u e. absurd cc)
added_image s w (Posts p) m a = refl

pub own_append : (m : ℕ) (xs ys : List Entry) → own m (xs ++ ys) ≡ own m xs ++ own m ys
own_append m [] ys = refl
own_append m (At n r ∷ xs) ys = go (n == m) (own_append m xs ys)
  where
    go : (b : Bool) → own m (xs ++ ys) ≡ own m xs ++ own m ys → cond b (r ∷ own m (xs ++ ys)) (own m (xs ++ ys)) ≡ cond b (r ∷ own m xs) (own m xs) ++ own m ys
    go true rest = ap (λ (x : List Record). r ∷ x) rest
    go false rest = rest

replayed_append : (s : Setting) (m : ℕ) (xs ys : List Record) (image : ℕ → ℕ) (a : ℕ) → replayed s m (xs ++ ys) image a ≡ replayed s m xs (replayed s m ys image) a
replayed_append s m [] ys image a = refl
replayed_append s m (Commit t ∷ xs) ys image a = ap (unwrap_or ((s.mini t).writes m a)) (replayed_append s m xs ys image a)
replayed_append s m (Grant t ∷ xs) ys image a = replayed_append s m xs ys image a
replayed_append s m (Refuse t why ∷ xs) ys image a = replayed_append s m xs ys image a
replayed_append s m (Abort t ∷ xs) ys image a = replayed_append s m xs ys image a
replayed_append s m (Forget t ∷ xs) ys image a = replayed_append s m xs ys image a

-- records make the same of the same image
replayed_same : (s : Setting) (m : ℕ) (xs : List Record) (f g : ℕ → ℕ) (a : ℕ) → f a ≡ g a → replayed s m xs f a ≡ replayed s m xs g a
replayed_same s m [] f g a same = same
replayed_same s m (Commit t ∷ xs) f g a same = ap (unwrap_or ((s.mini t).writes m a)) (replayed_same s m xs f g a same)
replayed_same s m (Grant t ∷ xs) f g a same = replayed_same s m xs f g a same
replayed_same s m (Refuse t why ∷ xs) f g a same = replayed_same s m xs f g a same
replayed_same s m (Abort t ∷ xs) f g a same = replayed_same s m xs f g a same
replayed_same s m (Forget t ∷ xs) f g a same = replayed_same s m xs f g a same

pub images_are_replayed : ImagesAreReplayed
images_are_replayed s w [] = ([], refl, λ m a. refl)
images_are_replayed s w (e ∷ events) =
    let it = images_are_replayed s (after s w e) events in (
      it.0 ++ added e,
      it.1 ∙ ap (λ (x : List Entry). it.0 ++ x) (added_log s w e) ∙ sym (append_assoc it.0 (added e) w.log),
      λ m a. it.2 m a
          ∙ replayed_same s m (own m it.0) ((after s w e).image m) (replayed s m (own m (added e)) (w.image m)) a (added_image s w e m a)
          ∙ sym (replayed_append s m (own m it.0) (own m (added e)) (w.image m) a)
          ∙ sym (ap (λ (x : List Record). replayed s m x (w.image m) a) (own_append m it.0 (added e))),
    )

-- ---- identifiers

pub identifiers_are_ordered : IdentifiersAreOrdered
identifiers_are_ordered c b q d a p hb hq ha hp = (
  λ less. elim (cases_order c d) [
    | inl same ↦ inr (
      same,
      elim (cases_order b a) [
        | inl alike ↦ inr (alike, omega arith)
        | inr (inl below) ↦ inl below
        | inr (inr above) ↦ absurd (omega arith)
      ],
    )
    | inr (inl below) ↦ inl below
    | inr (inr above) ↦ absurd (omega arith)
  ],
  λ order. elim order [
    | inl below ↦ omega arith
    | inr (same, inl below) ↦ omega arith
    | inr (same, inr last) ↦ (let alike = last.0 in let less = last.1 in omega arith)
  ],
)

pub identifiers_tell : IdentifiersTellTheirCoordinator
identifiers_tell c b q hb hq =
    let same : identifier c b q ≡ c * 2 ^ 128 + (b * 2 ^ 64 + q) = omega arith in
    ap (λ x. x / 2 ^ 128) same ∙ div-mul-add c (2 ^ 128) (b * 2 ^ 64 + q) (omega arith)

-- ---- the example

pub sample_ends_well : SampleEndsWell
sample_ends_well = record { points = refl; first = refl; second = refl; log = refl }

pub messages_may_disagree : MessagesMayDisagree
messages_may_disagree = record { commit = refl; abort = refl; log = refl }
