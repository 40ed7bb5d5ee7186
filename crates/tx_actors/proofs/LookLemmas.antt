-- A look is posted by an input that does nothing else.
use Rattle.std.proofs.Common.{◌≡◌, ℕ, ◌==◌, Bool, true, false, cond, ◌||◌, List, [], ◌∷◌, ◌++◌, map, length, Option, Some, None, ◌⊎◌, inl, inr, refl, sym, ap, ◌∙◌, subst}
use Rattle.std.proofs.lemmas.Bool.{eqb-true}
use Rattle.tx_rules.specs.Lists.{is_in}
use Rattle.tx_rules.specs.Mini.{In, is_logged, has_several, Setting, nodes_of, reads_of, Matches, flat}
use Rattle.tx_rules.specs.Decision.{Record, Grant, Refuse, Commit, Abort, Forget}
use Rattle.tx_rules.specs.World.{Message, Prepare, Granted, Looked, Refused, DecideCommit, DecideAbort, Done, Forgotten, ListKept, Kept, Ask, AnswerOk, AnswerAbort, World, Event, Begins, Grants, Completes, Posts, May, after, IsRun, after_all}
use Rattle.tx_rules.proofs.LawLemmas.{looks_are_flat}
use Rattle.tx_actors.specs.Node.{Standing, Above, Same, Below, standing, is_kept, View, view, Reaction, silent, answers, Rule, RecordAgain, FloorAgain, BelowFloor, Against, Passes, rule_for, by_rule, on_prepare, on_commit, forced, on_abort, on_forget, answers_by_floor, on_ask, handle}
use Rattle.tx_actors.specs.Coordinator.{may_begin, begin, hear_granted, hear_refused, hear_done, resend}
use Rattle.tx_actors.specs.Manager.{learn, resend_manager}
use Rattle.tx_actors.specs.Machine.{event_of, appending, reacts, State, numbered, Input, Begin, ToNode, ToStoppingNode, ToCoordinator, ToManager, GiveUp, Resend, BootCoordinator, BootNode, Sweep, ResendManager, BootManager, idle, acts, to_node, to_coordinator, to_manager, step, steps, events_of, opened_at}
use Rattle.tx_actors.specs.Laws.{IsFitting, LooksHaveTheirInput}
use Rattle.tx_actors.proofs.TestLemmas.{some_is}
use Rattle.tx_actors.proofs.FitLemmas.{IsPlainKind}
use Rattle.tx_actors.proofs.CoordinatorLemmas.{resend_fine, hear_granted_fine, hear_refused_fine, hear_done_fine}
use Rattle.tx_actors.proofs.ManagerLemmas.{learn_fine, resend_manager_fine}
use Rattle.tx_actors.proofs.NodeLemmas.{after_append, handle_good}
use Rattle.tx_actors.proofs.LawLemmas.{steps_join}
use Rattle.tx_actors.proofs.MachineLemmas.{IsFit, numbered-In, begun_steps, move_well, steps_reach, opening_fit}

-- ---- a memory node that posts a look does nothing else

-- the look is the whole reaction
abbrev IsAlone : Reaction → Type 0
IsAlone a = (m t : ℕ) (bytes : List (List ℕ)) → In (Looked m t bytes) a.posts → a ≡ answers (Looked m t bytes)

one_post : (rs : List Record) (p : Message) → ((m t : ℕ) (bytes : List (List ℕ)) → ¬ (Looked m t bytes ≡ p)) → IsAlone (record { appends = rs; posts = p ∷ [] })
one_post rs p other m t bytes h = elim h [ inl e ↦ absurd (other m t bytes e) | inr none ↦ absurd none ]

chosen : (b : Bool) (x y : Reaction) → IsAlone x → IsAlone y → IsAlone (cond b x y)
chosen true x y first second = first
chosen false x y first second = second

module _ (s : Setting) (m : ℕ) (v : View) where
  rule_alone : (t : ℕ) (rule : Rule) → IsAlone (by_rule s m v t rule)
  rule_alone t RecordAgain = one_post [] (Granted m t (reads_of s t m (v.seen t))) (λ n u bytes e. cc)
  rule_alone t (FloorAgain None) = one_post [] (Granted m t (reads_of s t m (v.seen t))) (λ n u bytes e. cc)
  rule_alone t (FloorAgain (Some why)) = one_post [] (Refused m t why) (λ n u bytes e. cc)
  rule_alone t (BelowFloor floor) = one_post [] _ (λ n u bytes e. cc)
  rule_alone t (Against why) =
      chosen (is_logged (s.mini t)) (record { appends = Refuse t why ∷ []; posts = Refused m t why ∷ [] }) (answers (Refused m t why))
      (one_post (Refuse t why ∷ []) (Refused m t why) (λ n u bytes e. cc)) (one_post [] (Refused m t why) (λ n u bytes e. cc))
  rule_alone t Passes =
      chosen (is_logged (s.mini t)) (record { appends = Grant t ∷ cond (has_several (nodes_of s t)) [] (Commit t ∷ []); posts = Granted m t (reads_of s t m v.image) ∷ [] })
      (answers (Looked m t (reads_of s t m v.image)))
      (one_post (Grant t ∷ cond (has_several (nodes_of s t)) [] (Commit t ∷ [])) (Granted m t (reads_of s t m v.image)) (λ n u bytes e. cc))
      (λ n u bytes h. elim h [ inl e ↦ ap answers (sym e) | inr none ↦ absurd none ])

  asked_alone : (t : ℕ) (x : Standing) → IsAlone (answers_by_floor m t x)
  asked_alone t (Same None) = one_post [] (AnswerOk m t) (λ n u bytes e. cc)
  asked_alone t (Same (Some why)) = one_post [] (AnswerAbort m t) (λ n u bytes e. cc)
  asked_alone t Above = one_post (forced t Above) (AnswerAbort m t) (λ n u bytes e. cc)
  asked_alone t (Below floor) = one_post [] (AnswerAbort m t) (λ n u bytes e. cc)

  participant_alone : (t : ℕ) (a : Reaction) → IsAlone a → IsAlone (cond (is_in m (nodes_of s t) || is_in t s.old) a silent)
  participant_alone t a alone = chosen (is_in m (nodes_of s t) || is_in t s.old) a silent alone (λ n u bytes h. absurd h)

  handle_alone : (held : Option ℕ) (p : Message) → IsAlone (handle s m held v p)
  handle_alone held (Prepare t) = participant_alone t (on_prepare s m held v t) (rule_alone t (rule_for s m held v t))
  handle_alone held (DecideCommit t) = participant_alone t (on_commit m v t) (one_post (on_commit m v t).appends (Done m t) (λ n u bytes e. cc))
  handle_alone held (DecideAbort t) = participant_alone t (on_abort s m v t) (one_post (on_abort s m v t).appends (Done m t) (λ n u bytes e. cc))
  handle_alone held (Forgotten t) = participant_alone t (on_forget s m v t) (λ n u bytes h. absurd h)
  handle_alone held (Ask t) =
      participant_alone t (on_ask s m v t)
      (chosen (is_kept s m v.records t) (answers (AnswerOk m t)) (answers_by_floor m t (standing s v.records t))
      (one_post [] (AnswerOk m t) (λ n u bytes e. cc)) (asked_alone t (standing s v.records t)))
  handle_alone held ListKept = one_post [] _ (λ n u bytes e. cc)
  handle_alone held (Granted n t bytes) = λ k u b h. absurd h
  handle_alone held (Looked n t bytes) = λ k u b h. absurd h
  handle_alone held (Refused n t why) = λ k u b h. absurd h
  handle_alone held (Done n t) = λ k u b h. absurd h
  handle_alone held (Kept n xs) = λ k u b h. absurd h
  handle_alone held (AnswerOk n t) = λ k u b h. absurd h
  handle_alone held (AnswerAbort n t) = λ k u b h. absurd h

-- ---- what an input posts

-- a numbered look was there before, or is posted now, as the first message
abbrev IsNowOrBefore : Setting → State → ℕ → Message → Type 0
IsNowOrBefore s st k p = (numbered st.world.posted k ≡ Some p) ⊎ ((length st.world.posted ≡ k) × May s st.world (Posts p))

-- messages of plain kinds
plain_posts : (s : Setting) (w : World) (ps : List Message) → ((p : Message) → In p ps → IsPlainKind p) → (k m t : ℕ) (bytes : List (List ℕ))
    → numbered (after_all s w (map Posts ps)).posted k ≡ Some (Looked m t bytes) → numbered w.posted k ≡ Some (Looked m t bytes)
plain_posts s w [] all k m t bytes h = h
plain_posts s w (p ∷ ps) all k m t bytes h = go (length w.posted == k) (plain_posts s (after s w (Posts p)) ps (λ q i. all q (inr i)) k m t bytes h)
  where
    look : p ≡ Looked m t bytes → ⊥
    look e = subst IsPlainKind e (all p (inl refl))

    go : (b : Bool) → cond b (Some p) (numbered w.posted k) ≡ Some (Looked m t bytes) → numbered w.posted k ≡ Some (Looked m t bytes)
    go true e = absurd (look (some_is p (Looked m t bytes) e))
    go false e = e

appending_posted : (s : Setting) (w : World) (m : ℕ) (rs : List Record) → (after_all s w (appending s w m rs)).posted ≡ w.posted
appending_posted s w m [] = refl
appending_posted s w m (r ∷ rs) = appending_posted s (after s w (event_of s w m r)) m rs ∙ one r
  where
    one : (r : Record) → (after s w (event_of s w m r)).posted ≡ w.posted
    one (Grant t) = go _
      where
        go : (b : Bool) → (after s w (cond b (Completes m t) (Grants m t))).posted ≡ w.posted
        go true = refl
        go false = refl
    one (Refuse t why) = refl
    one (Commit t) = refl
    one (Abort t) = refl
    one (Forget t) = refl

-- what is numbered after messages was numbered before, or is one of them
numbered_or : (s : Setting) (w : World) (ps : List Message) (k : ℕ) (p : Message) → numbered (after_all s w (map Posts ps)).posted k ≡ Some p → (numbered w.posted k ≡ Some p) ⊎ In p ps
numbered_or s w [] k p h = inl h
numbered_or s w (q ∷ ps) k p h = elim (numbered_or s (after s w (Posts q)) ps k p h) [
  | inl there ↦ go (length w.posted == k) there
  | inr rest ↦ inr (inr rest)
]
  where
    go : (b : Bool) → cond b (Some q) (numbered w.posted k) ≡ Some p → (numbered w.posted k ≡ Some p) ⊎ In p (q ∷ ps)
    go true e = inr (inl (sym (some_is q p e)))
    go false e = inl e

module _ (s : Setting) (st : State) (fit : IsFit s st) (k m t : ℕ) (bytes : List (List ℕ)) where
  abbrev look : Message
  look = Looked m t bytes

  abbrev IsPosted : List Event → Type 0
  IsPosted events = numbered (after_all s st.world events).posted k ≡ Some look

  abbrev Found : Type 0
  Found = (numbered st.world.posted k ≡ Some look) ⊎ ((length st.world.posted ≡ k) × May s st.world (Posts look))

  -- a memory node
  node_look : (n : ℕ) (held : Option ℕ) (o : Option Message) → ((p : Message) → o ≡ Some p → In p st.world.posted) → IsPosted (to_node s st n held false o).events → Found
  node_look n held None all h = inl h
  node_look n held (Some p) all h =
      let a = handle s n held (view st.world n) p in
      let w = after_all s st.world (appending s st.world n a.appends) in
      elim (numbered_or s w a.posts k look (ap (λ (x : World). numbered x.posted k) (sym (after_append s st.world (appending s st.world n a.appends) (map Posts a.posts))) ∙ h)) [
        | inl before ↦ inl (ap (λ (ps : List Message). numbered ps k) (sym (appending_posted s st.world n a.appends)) ∙ before)
        | inr here ↦
            let whole = handle_alone s n (view st.world n) held p m t bytes here in
            let there = all p refl in
            let may = (subst Good whole (handle_good s st.world fit.sound n held p there (fit.sound.faithful.promises p there))).1.0 in
            now may (length st.world.posted == k) refl (subst (λ (x : Reaction). numbered (after_all s st.world (reacts s st.world n false x)).posted k ≡ Some look) whole h)
      ]
    where
      Good : Reaction → Type 0
      Good x = IsRun s st.world (appending s st.world n x.appends) × IsRun s (after_all s st.world (appending s st.world n x.appends)) (map Posts x.posts)

      now : May s st.world (Posts (Looked m t bytes)) → (b : Bool) → (length st.world.posted == k) ≡ b
          → cond b (Some (Looked m t bytes)) (numbered st.world.posted k) ≡ Some (Looked m t bytes)
          → (numbered st.world.posted k ≡ Some (Looked m t bytes)) ⊎ ((length st.world.posted ≡ k) × May s st.world (Posts (Looked m t bytes)))
      now may true size e = inr (eqb-true (length st.world.posted) k size, may)
      now may false size e = inl e

  stop_look : (n : ℕ) (held : Option ℕ) (o : Option Message) → IsPosted (to_node s st n held true o).events → Found
  stop_look n held None h = inl h
  stop_look n held (Some p) h =
      let a = handle s n held (view st.world n) p in
      inl (ap (λ (ps : List Message). numbered ps k) (sym (appending_posted s st.world n a.appends))
      ∙ ap (λ (x : World). numbered x.posted k) (sym (after_append s st.world (appending s st.world n a.appends) [])) ∙ h)

  -- the others post none
  others_look : (ps : List Message) → ((p : Message) → In p ps → IsPlainKind p) → IsPosted (map Posts ps) → Found
  others_look ps all h = inl (plain_posts s st.world ps all k m t bytes h)

  heard_look : (o : Option Message) → ((p : Message) → o ≡ Some p → In p st.world.posted) → IsPosted (to_coordinator s st o).events → Found
  heard_look None all h = inl h
  heard_look (Some (Granted n u b)) all h =
      let c = s.coord u in
      others_look (hear_granted s (st.coordinator c) n u b (st.coordinator c).running).posts (λ p i.
      ((hear_granted_fine s st.world fit.sound.faithful c (st.coordinator c) (fit.coordinator c) n u b (st.coordinator c).running refl (inl (all (Granted n u b) refl))).posts p i).1.0) h
  heard_look (Some (Looked n u b)) all h =
      let c = s.coord u in
      others_look (hear_granted s (st.coordinator c) n u b (st.coordinator c).running).posts (λ p i.
      ((hear_granted_fine s st.world fit.sound.faithful c (st.coordinator c) (fit.coordinator c) n u b (st.coordinator c).running refl (inr (all (Looked n u b) refl))).posts p i).1.0) h
  heard_look (Some (Refused n u why)) all h =
      let c = s.coord u in
      others_look (hear_refused s (st.coordinator c) n u why (st.coordinator c).running).posts (λ p i.
      ((hear_refused_fine s st.world fit.sound.faithful c (st.coordinator c) (fit.coordinator c) n u why (st.coordinator c).running refl (all (Refused n u why) refl)).posts p i).1.0) h
  heard_look (Some (Done n u)) all h =
      let c = s.coord u in
      others_look (hear_done s (st.coordinator c) n u).posts (λ p i.
      ((hear_done_fine s st.world fit.sound.faithful c (st.coordinator c) (fit.coordinator c) n u (fit.sound.faithful.promises (Done n u) (all (Done n u) refl))).posts p i).1.0) h
  heard_look (Some (Prepare u)) all h = inl h
  heard_look (Some (DecideCommit u)) all h = inl h
  heard_look (Some (DecideAbort u)) all h = inl h
  heard_look (Some (Forgotten u)) all h = inl h
  heard_look (Some ListKept) all h = inl h
  heard_look (Some (Kept n xs)) all h = inl h
  heard_look (Some (Ask u)) all h = inl h
  heard_look (Some (AnswerOk n u)) all h = inl h
  heard_look (Some (AnswerAbort n u)) all h = inl h

  learnt_look : (o : Option Message) → ((p : Message) → o ≡ Some p → In p st.world.posted) → IsPosted (to_manager s st o).events → Found
  learnt_look None all h = inl h
  learnt_look (Some q) all h =
      others_look (learn st.manager q).posts (λ p i. ((learn_fine s st.world st.manager q fit.manager (fit.sound.faithful.promises q (all q refl))).posts p i).1.0) h

  begun_look : (u : ℕ) (b : Bool)
      → IsPosted (cond b (acts st (s.coord u) (Begins u ∷ []) (begin (st.coordinator (s.coord u)) u)) (idle st)).events → Found
  begun_look u true h = inl (plain_posts s (after s st.world (Begins u)) (Prepare u ∷ []) (λ p i. elim i [ inl e ↦ subst IsPlainKind (sym e) tt | inr none ↦ absurd none ]) k m t bytes h)
  begun_look u false h = inl h

  step_look : (input : Input) → numbered (step s st input).world.posted k ≡ Some look → Found
  step_look (Begin u) h = begun_look u (may_begin (st.coordinator (s.coord u)) u (st.coordinator (s.coord u)).running) h
  step_look (ToNode j n held) h = node_look n held (numbered st.world.posted j) (λ p is. numbered-In st.world.posted j p is) h
  step_look (ToStoppingNode j n held) h = stop_look n held (numbered st.world.posted j) h
  step_look (ToCoordinator j) h = heard_look (numbered st.world.posted j) (λ p is. numbered-In st.world.posted j p is) h
  step_look (ToManager j) h = learnt_look (numbered st.world.posted j) (λ p is. numbered-In st.world.posted j p is) h
  step_look (GiveUp c) h = inl h
  step_look (Resend c) h =
      others_look (resend (st.coordinator c)).posts (λ p i. ((resend_fine s st.world fit.sound.faithful c (st.coordinator c) (fit.coordinator c)).posts p i).1.0) h
  step_look (BootCoordinator c) h = inl h
  step_look (BootNode n) h = inl h
  step_look Sweep h = others_look (ListKept ∷ []) (λ p i. elim i [ inl e ↦ subst IsPlainKind (sym e) tt | inr none ↦ absurd none ]) h
  step_look ResendManager h = others_look (resend_manager st.manager) (λ p i. ((resend_manager_fine s st.world st.manager fit.manager).posts p i).1.0) h
  step_look BootManager h = inl h

-- ---- all inputs

-- the input that posts it
pub record IsPostedBy (s : Setting) (st : State) (inputs : List Input) (k : ℕ) (p : Message) : Type 0 where
  pub earlier : List Input
  pub input : Input
  pub later : List Input
  pub split : inputs ≡ earlier ++ input ∷ later
  pub size : length (steps s st earlier).world.posted ≡ k
  pub may : May s (steps s st earlier).world (Posts p)

look_of : (s : Setting) (st : State) (inputs : List Input) → IsFit s st → IsFitting s (steps s st inputs).world → (k m t : ℕ) (bytes : List (List ℕ))
    → numbered (steps s st inputs).world.posted k ≡ Some (Looked m t bytes)
    → (numbered st.world.posted k ≡ Some (Looked m t bytes)) ⊎ IsPostedBy s st inputs k (Looked m t bytes)
look_of s st [] fit fitting k m t bytes h = inl h
look_of s st (x ∷ inputs) fit fitting k m t bytes h =
    let first = move_well s st fit x (λ u is live. fitting u (begun_steps s (step s st x) inputs u is) live) in
    elim (look_of s (step s st x) inputs first.1 fitting k m t bytes h) [
      | inl there ↦ elim (step_look s st fit k m t bytes x there) [
        | inl before ↦ inl before
        | inr now ↦ inr (record { earlier = []; input = x; later = inputs; split = refl; size = now.0; may = now.1 })
      ]
      | inr it ↦ inr (record {
        earlier = x ∷ it.earlier;
        input = it.input;
        later = it.later;
        split = ap (λ (ys : List Input). x ∷ ys) it.split;
        size = it.size;
        may = it.may;
      })
    ]

pub looks_have_their_input : LooksHaveTheirInput
looks_have_their_input s log image next o above inputs fitting k m t bytes is =
    let st0 = opened_at s log image next in
    elim (look_of s st0 inputs (opening_fit s log image next o above) fitting k m t bytes is) [
      | inl none ↦ absurd (nothing none)
      | inr it ↦
          let fits : IsFitting s (steps s st0 it.earlier).world = (λ u begun live. fitting u (grown it.earlier it.input it.later it.split u begun) live) in
          let r = steps_reach s st0 it.earlier (opening_fit s log image next o above) fits in
          let flat_there = looks_are_flat s log image o (events_of s st0 it.earlier) r.run m t bytes (subst (λ (w : World). May s w (Posts (Looked m t bytes))) r.world it.may) in
          let world = ap (λ (w : World). w.points) r.world in (
            it.earlier,
            it.input,
            it.later,
            it.split,
            it.size,
            subst (λ (ps : List ℕ). bytes ≡ reads_of s t m (flat s ps m)) (sym world) flat_there.0,
            subst (λ (ps : List ℕ). Matches s t m (flat s ps m)) (sym world) flat_there.1,
          )
    ]
  where
    nothing : numbered [] k ≡ Some (Looked m t bytes) → ⊥
    nothing e = cc

    grown : (earlier : List Input) (input : Input) (later : List Input) → inputs ≡ earlier ++ input ∷ later → (u : ℕ) → In u (steps s (opened_at s log image next) earlier).world.begun
        → In u (steps s (opened_at s log image next) inputs).world.begun
    grown earlier input later split u begun =
        subst (λ (st : State). In u st.world.begun) (sym (ap (steps s (opened_at s log image next)) split ∙ steps_join s (opened_at s log image next) earlier (input ∷ later)))
        (begun_steps s (steps s (opened_at s log image next) earlier) (input ∷ later) u begun)
