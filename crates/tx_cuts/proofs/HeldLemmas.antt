-- Nothing is granted where a cut is held, and a vote is Held only by the cut that is held there.
use Rattle.std.proofs.Common.{◌≡◌, ℕ, Bool, true, false, cond, ◌&&◌, ◌||◌, List, [], ◌∷◌, ◌++◌, map, Option, Some, None, ◌⊎◌, inl, inr, refl, sym, ap, ◌∙◌, subst}
use Rattle.tx_rules.specs.Lists.{is_in}
use Rattle.tx_rules.specs.Mini.{In, is_logged, has_several, Setting, nodes_of, reads_of}
use Rattle.tx_rules.specs.Decision.{Reason, Forced, Held, Locked, Mismatch, Record, Grant, Refuse, Commit, Abort, Forget, At}
use Rattle.tx_rules.specs.World.{Message, Prepare, Granted, Looked, Refused, DecideCommit, DecideAbort, Done, Forgotten, ListKept, Kept, Ask, AnswerOk, AnswerAbort, World, Event, Begins, Grants, Completes, Refuses, Commits, Aborts, Forgets, Posts, after, IsRun, after_all}
use Rattle.tx_rules.proofs.FaithfulLemmas.{in_back, in_either}
use Rattle.tx_rules.proofs.LawLemmas.{runs_only_add}
use Rattle.tx_actors.specs.Node.{Standing, Above, Same, Below, standing, is_kept, is_undecided, has_decision, View, view, Reaction, silent, answers, RecordAgain, least_holder, first_mismatch, rule_by_cut, rule_by_floor, refuses, grants, by_rule, on_prepare, on_commit, forced, on_abort, on_forget, answers_by_floor, on_ask, to_participant, handle}
use Rattle.tx_actors.specs.Coordinator.{may_begin, begin, hear_granted, hear_refused, hear_done, resend}
use Rattle.tx_actors.specs.Manager.{learn, resend_manager}
use Rattle.tx_actors.specs.Machine.{all_granted, event_of, appending, numbered, Input, Begin, ToNode, ToStoppingNode, ToCoordinator, ToManager, GiveUp, Resend, BootCoordinator, BootNode, Sweep, ResendManager, BootManager, idle, acts, to_node, to_coordinator, to_manager, move}
use Rattle.tx_actors.proofs.TestLemmas.{some_is}
use Rattle.tx_actors.proofs.RecordLemmas.{own-log, StandsSo, standing_is}
use Rattle.tx_actors.proofs.FitLemmas.{IsPlainKind}
use Rattle.tx_actors.proofs.CoordinatorLemmas.{resend_fine, hear_granted_fine, hear_refused_fine, hear_done_fine}
use Rattle.tx_actors.proofs.ManagerLemmas.{learn_fine, resend_manager_fine}
use Rattle.tx_actors.proofs.MachineLemmas.{IsFit, numbered-In}
use Rattle.tx_cuts.specs.Cut.{Copy, Cuts, IsHeld, IsHeldSo, Does, IsClear, after_cut, IsCutRun, after_cuts}
use Rattle.tx_cuts.specs.Holds.{held_cut}
use Rattle.tx_cuts.specs.Whole.{Whole, state_of, knowing}
use Rattle.tx_cuts.proofs.CrashLemmas.{record_log}

-- ---- events that are clear one after another

abbrev pub AllClear : Setting → Cuts → List Event → Type 0
AllClear s k [] = Unit {0}
AllClear s k (e ∷ events) = IsClear k e × AllClear s (after_cut s k (Does e)) events

pub does_run : (s : Setting) (ms : List ℕ) (k : Cuts) (events : List Event) → IsRun s k.world events → AllClear s k events → IsCutRun s ms k (map Does events)
does_run s ms k [] run clear = tt
does_run s ms k (e ∷ events) run clear = ((run.0, clear.0), does_run s ms (after_cut s k (Does e)) events run.1 clear.1)

-- what the transactions do changes the world alone
pub does_world : (s : Setting) (k : Cuts) (events : List Event) → after_cuts s k (map Does events) ≡ record k { world = after_all s k.world events }
does_world s k [] = refl
does_world s k (e ∷ events) = does_world s (after_cut s k (Does e)) events

clear_append : (s : Setting) (k : Cuts) (xs ys : List Event) → AllClear s k xs → AllClear s (after_cuts s k (map Does xs)) ys → AllClear s k (xs ++ ys)
clear_append s k [] ys first second = second
clear_append s k (x ∷ xs) ys first second = (first.0, clear_append s (after_cut s k (Does x)) xs ys first.1 second)

-- a message of a plain kind
plain_clear : (k : Cuts) (p : Message) → IsPlainKind p → IsClear k (Posts p)
plain_clear k (Prepare t) plain = tt
plain_clear k (Granted m t bytes) plain = tt
plain_clear k (Looked m t bytes) plain = absurd plain
plain_clear k (Refused m t why) plain = absurd plain
plain_clear k (DecideCommit t) plain = tt
plain_clear k (DecideAbort t) plain = tt
plain_clear k (Done m t) plain = tt
plain_clear k (Forgotten t) plain = tt
plain_clear k ListKept plain = tt
plain_clear k (Kept m xs) plain = tt
plain_clear k (Ask t) plain = tt
plain_clear k (AnswerOk m t) plain = tt
plain_clear k (AnswerAbort m t) plain = tt

-- a message stays clear where others are posted
still_clear : (s : Setting) (k : Cuts) (q p : Message) → IsClear k (Posts p) → IsClear (after_cut s k (Does (Posts q))) (Posts p)
still_clear s k q (Prepare t) clear = tt
still_clear s k q (Granted m t bytes) clear = tt
still_clear s k q (Looked m t bytes) clear = tt
still_clear s k q (Refused m t why) clear = clear
still_clear s k q (DecideCommit t) clear = tt
still_clear s k q (DecideAbort t) clear = tt
still_clear s k q (Done m t) clear = tt
still_clear s k q (Forgotten t) clear = tt
still_clear s k q ListKept clear = tt
still_clear s k q (Kept m xs) clear = tt
still_clear s k q (Ask t) clear = tt
still_clear s k q (AnswerOk m t) clear = tt
still_clear s k q (AnswerAbort m t) clear = tt

posts_clear : (s : Setting) (k : Cuts) (posts : List Message) → ((p : Message) → In p posts → IsClear k (Posts p)) → AllClear s k (map Posts posts)
posts_clear s k [] all = tt
posts_clear s k (p ∷ posts) all =
    (all p (inl refl), posts_clear s (after_cut s k (Does (Posts p))) posts (λ q h. still_clear s k p q (all q (inr h))))

plain_posts : (s : Setting) (k : Cuts) (posts : List Message) → ((p : Message) → In p posts → IsPlainKind p) → AllClear s k (map Posts posts)
plain_posts s k posts all = posts_clear s k posts (λ p h. plain_clear k p (all p h))

-- ---- what a memory node does while it holds this cut, or none

abbrev SuitsWhy : Option ℕ → Reason → Type 0
SuitsWhy held (Held cut) = held ≡ Some cut
SuitsWhy held why = Unit {0}

abbrev SuitsRecord : Option ℕ → Record → Type 0
SuitsRecord held (Grant t) = held ≡ None
SuitsRecord held (Refuse t why) = SuitsWhy held why
SuitsRecord held r = Unit {0}

abbrev AllSuit : Option ℕ → List Record → Type 0
AllSuit held [] = Unit {0}
AllSuit held (r ∷ rs) = SuitsRecord held r × AllSuit held rs

abbrev SuitsPost : ℕ → Option ℕ → List Record → Message → Type 0
SuitsPost m held rs (Refused n t why) = (n ≡ m) × (In (Refuse t why) rs ⊎ SuitsWhy held why)
SuitsPost m held rs p = Unit {0}

-- no grant while a cut is held, and what is Held is so by this cut, or was so by its entry
pub record Suits (m : ℕ) (held : Option ℕ) (rs : List Record) (a : Reaction) : Type 0 where
  pub appends : AllSuit held a.appends
  pub posts : (p : Message) → In p a.posts → SuitsPost m held (a.appends ++ rs) p

module _ (s : Setting) (m : ℕ) (v : View) where
  answer_suits : (held : Option ℕ) (p : Message) → SuitsPost m held v.records p → Suits m held v.records (answers p)
  answer_suits held p suits = record { appends = tt; posts = λ q h. elim h [ inl e ↦ subst (SuitsPost m held v.records) (sym e) suits | inr none ↦ absurd none ] }

  chosen_suits : (held : Option ℕ) (b : Bool) (x y : Reaction) → Suits m held v.records x → Suits m held v.records y → Suits m held v.records (cond b x y)
  chosen_suits held true x y first second = first
  chosen_suits held false x y first second = second

  silent_suits : (held : Option ℕ) → Suits m held v.records silent
  silent_suits held = record { appends = tt; posts = λ p h. absurd h }

  refuses_suits : (held : Option ℕ) (t : ℕ) (why : Reason) → SuitsWhy held why → Suits m held v.records (refuses s m t why)
  refuses_suits held t why suits = chosen_suits held (is_logged (s.mini t)) (record { appends = Refuse t why ∷ []; posts = Refused m t why ∷ [] }) (answers (Refused m t why))
      (record {
        appends = (suits, tt);
        posts = λ p h. elim h [ inl e ↦ subst (SuitsPost m held (Refuse t why ∷ v.records)) (sym e) (refl, inl (inl refl)) | inr none ↦ absurd none ];
      })
      (answer_suits held (Refused m t why) (refl, inr suits))

  grants_suits : (t : ℕ) → Suits m None v.records (grants s m v t)
  grants_suits t = go (is_logged (s.mini t)) (has_several (nodes_of s t))
    where
      go : (b c : Bool) → Suits m None v.records (cond b
          (record { appends = Grant t ∷ cond c [] (Commit t ∷ []); posts = Granted m t (reads_of s t m v.image) ∷ [] })
          (answers (Looked m t (reads_of s t m v.image))))
      go true true = record { appends = (refl, tt); posts = λ p h. elim h [ inl e ↦ subst (SuitsPost m None (Grant t ∷ v.records)) (sym e) tt | inr none ↦ absurd none ] }
      go true false =
          record { appends = (refl, (tt, tt)); posts = λ p h. elim h [ inl e ↦ subst (SuitsPost m None (Grant t ∷ Commit t ∷ v.records)) (sym e) tt | inr none ↦ absurd none ] }
      go false c = answer_suits None (Looked m t (reads_of s t m v.image)) tt

  cut_suits : (t : ℕ) (held holder mismatch : Option ℕ) → Suits m held v.records (by_rule s m v t (rule_by_cut held holder mismatch))
  cut_suits t (Some cut) holder mismatch = refuses_suits (Some cut) t (Held cut) refl
  cut_suits t None (Some holder) mismatch = refuses_suits None t (Locked holder) tt
  cut_suits t None None (Some item) = refuses_suits None t (Mismatch item) tt
  cut_suits t None None None = grants_suits t

  floor_suits : (t : ℕ) (held : Option ℕ) (x : Standing) → StandsSo s v.records t x → Suits m held v.records (by_rule s m v t (rule_by_floor s m held v t x))
  floor_suits t held Above is = cut_suits t held (least_holder s m v.records t) (first_mismatch ((s.mini t).wants m) v.image)
  floor_suits t held (Same None) is = answer_suits held (Granted m t (reads_of s t m (v.seen t))) tt
  floor_suits t held (Same (Some why)) is = answer_suits held (Refused m t why) (refl, inl is)
  floor_suits t held (Below floor) is = answer_suits held (Refused m t (Forced floor)) (refl, inr tt)

  prepare_suits : (t : ℕ) (held : Option ℕ) → Suits m held v.records (on_prepare s m held v t)
  prepare_suits t held = go (is_kept s m v.records t)
    where
      go : (b : Bool) → Suits m held v.records (by_rule s m v t (cond b RecordAgain (rule_by_floor s m held v t (standing s v.records t))))
      go true = answer_suits held (Granted m t (reads_of s t m (v.seen t))) tt
      go false = floor_suits t held (standing s v.records t) (standing_is s v.records t)

  -- an act of which all records suit, and that posts this message
  act_suits : (held : Option ℕ) (rs : List Record) (p : Message) → AllSuit held rs → SuitsPost m held (rs ++ v.records) p → Suits m held v.records (record { appends = rs; posts = p ∷ [] })
  act_suits held rs p all suits =
      record { appends = all; posts = λ q h. elim h [ inl e ↦ subst (SuitsPost m held (rs ++ v.records)) (sym e) suits | inr none ↦ absurd none ] }

  either_suits : (held : Option ℕ) (b : Bool) (xs ys : List Record) → AllSuit held xs → AllSuit held ys → AllSuit held (cond b xs ys)
  either_suits held true xs ys first second = first
  either_suits held false xs ys first second = second

  forced_suits : (held : Option ℕ) (t : ℕ) (x : Standing) → AllSuit held (forced t x)
  forced_suits held t Above = (tt, tt)
  forced_suits held t (Same vote) = tt
  forced_suits held t (Below floor) = tt

  asked_suits : (held : Option ℕ) (t : ℕ) (x : Standing) → Suits m held v.records (answers_by_floor m t x)
  asked_suits held t (Same None) = answer_suits held (AnswerOk m t) tt
  asked_suits held t (Same (Some why)) = act_suits held [] (AnswerAbort m t) tt tt
  asked_suits held t Above = act_suits held (forced t Above) (AnswerAbort m t) (forced_suits held t Above) tt
  asked_suits held t (Below floor) = act_suits held [] (AnswerAbort m t) tt tt

  participant_suits : (held : Option ℕ) (t : ℕ) (a : Reaction) → Suits m held v.records a → Suits m held v.records (to_participant s m t a)
  participant_suits held t a suits = chosen_suits held (is_in m (nodes_of s t) || is_in t s.old) a silent suits (silent_suits held)

  pub handle_suits : (held : Option ℕ) (p : Message) → Suits m held v.records (handle s m held v p)
  handle_suits held (Prepare t) = participant_suits held t (on_prepare s m held v t) (prepare_suits t held)
  handle_suits held (DecideCommit t) =
      participant_suits held t (on_commit m v t)
      (act_suits held (cond (is_undecided v.records t) (Commit t ∷ []) []) (Done m t) (either_suits held (is_undecided v.records t) (Commit t ∷ []) [] (tt, tt) tt) tt)
  handle_suits held (DecideAbort t) =
      participant_suits held t (on_abort s m v t)
      (act_suits held (cond (is_undecided v.records t) (Abort t ∷ []) (forced t (standing s v.records t))) (Done m t)
      (either_suits held (is_undecided v.records t) (Abort t ∷ []) (forced t (standing s v.records t)) (tt, tt) (forced_suits held t (standing s v.records t))) tt)
  handle_suits held (Forgotten t) =
      participant_suits held t (on_forget s m v t) (record {
        appends = either_suits held (is_kept s m v.records t && has_decision v.records t) (Forget t ∷ []) [] (tt, tt) tt;
        posts = λ p h. absurd h;
      })
  handle_suits held (Ask t) =
      participant_suits held t (on_ask s m v t)
      (chosen_suits held (is_kept s m v.records t) (answers (AnswerOk m t)) (answers_by_floor m t (standing s v.records t))
      (answer_suits held (AnswerOk m t) tt) (asked_suits held t (standing s v.records t)))
  handle_suits held ListKept = answer_suits held _ tt
  handle_suits held (Granted n t bytes) = silent_suits held
  handle_suits held (Looked n t bytes) = silent_suits held
  handle_suits held (Refused n t why) = silent_suits held
  handle_suits held (Done n t) = silent_suits held
  handle_suits held (Kept n xs) = silent_suits held
  handle_suits held (AnswerOk n t) = silent_suits held
  handle_suits held (AnswerAbort n t) = silent_suits held

-- ---- a memory node

held_is : (o : Option Copy) (cut : ℕ) → held_cut o ≡ Some cut → IsHeld o cut
held_is None cut e = absurd cc
held_is (Some copy) cut e = go copy.held refl e
  where
    go : (b : Bool) → copy.held ≡ b → cond b (Some copy.cut) None ≡ Some cut → IsHeld (Some copy) cut
    go true held is = (copy, refl, held, some_is copy.cut cut is)
    go false free is = absurd cc

free_is : (o : Option Copy) (copy : Copy) → held_cut o ≡ None → o ≡ Some copy → ¬ (copy.held ≡ true)
free_is None copy e is held = cc
free_is (Some other) copy e is held = go (other.held) (ap (λ (c : Copy). c.held) (some_is other copy is) ∙ held) e
  where
    go : (b : Bool) → b ≡ true → cond b (Some other.cut) None ≡ None → ⊥
    go true h k = cc
    go false h k = cc

held_so : (o : Option Copy) (why : Reason) → SuitsWhy (held_cut o) why → IsHeldSo o why
held_so o (Forced floor) suits = tt
held_so o (Held cut) suits = held_is o cut suits
held_so o (Locked holder) suits = tt
held_so o (Mismatch item) suits = tt

appending_clear : (s : Setting) (k : Cuts) (m : ℕ) (rs : List Record) → AllSuit (held_cut (k.copies m)) rs → AllClear s k (appending s k.world m rs)
appending_clear s k m [] suits = tt
appending_clear s k m (Grant t ∷ rs) suits = (
  go (all_granted (At m (Grant t) ∷ k.world.log) t (nodes_of s t)),
  appending_clear s (after_cut s k (Does (event_of s k.world m (Grant t)))) m rs suits.1,
)
  where
    go : (b : Bool) → IsClear k (cond b (Completes m t) (Grants m t))
    go true = λ h. free_is (k.copies m) h.copy suits.0 h.is h.held
    go false = λ h. free_is (k.copies m) h.copy suits.0 h.is h.held
appending_clear s k m (Refuse t why ∷ rs) suits = (held_so (k.copies m) why suits.0, appending_clear s (after_cut s k (Does (Refuses m t why))) m rs suits.1)
appending_clear s k m (Commit t ∷ rs) suits = (tt, appending_clear s (after_cut s k (Does (Commits m t))) m rs suits.1)
appending_clear s k m (Abort t ∷ rs) suits = (tt, appending_clear s (after_cut s k (Does (Aborts m t))) m rs suits.1)
appending_clear s k m (Forget t ∷ rs) suits = (tt, appending_clear s (after_cut s k (Does (Forgets m t))) m rs suits.1)

-- what is appended stands in the log then
appended_there : (s : Setting) (w : World) (m : ℕ) (rs : List Record) (r : Record) → In r rs → In (At m r) (after_all s w (appending s w m rs)).log
appended_there s w m [] r h = absurd h
appended_there s w m (q ∷ rs) r h =
    let v = after s w (event_of s w m q) in
    elim h [
      | inl e ↦ subst (In (At m r)) (sym (runs_only_add s v (appending s v m rs)).log.1)
          (in_back (At m r) _ v.log (subst (In (At m r)) (sym (record_log s w m q)) (inl (ap (At m) e))))
      | inr rest ↦ appended_there s v m rs r rest
    ]

node_clear : (s : Setting) (x : Whole) (m : ℕ) (stops : Bool) (o : Option Message) → AllClear s x.cuts (to_node s (state_of x) m (held_cut (x.cuts.copies m)) stops o).events
node_clear s x m stops None = tt
node_clear s x m stops (Some p) =
    let k = x.cuts in
    let a = handle s m (held_cut (k.copies m)) (view k.world m) p in
    let suits = handle_suits s m (view k.world m) (held_cut (k.copies m)) p in
    clear_append s k (appending s k.world m a.appends) (cond stops [] (map Posts a.posts)) (appending_clear s k m a.appends suits.appends)
    (subst (λ (j : Cuts). AllClear s j (cond stops [] (map Posts a.posts))) (sym (does_world s k (appending s k.world m a.appends))) (rest a suits stops))
  where
    posted : (a : Reaction) → Suits m (held_cut (x.cuts.copies m)) (view x.cuts.world m).records a → (q : Message) → In q a.posts
        → IsClear (record x.cuts { world = after_all s x.cuts.world (appending s x.cuts.world m a.appends) }) (Posts q)
    posted a suits (Refused n t why) h =
        let it = suits.posts (Refused n t why) h in
        let w = after_all s x.cuts.world (appending s x.cuts.world m a.appends) in
        subst (λ (y : ℕ). In (At y (Refuse t why)) w.log ⊎ IsHeldSo (x.cuts.copies y) why) (sym it.0) (elim it.1 [
          | inl entry ↦ inl (elim (in_either (Refuse t why) a.appends (view x.cuts.world m).records entry) [
            | inl new ↦ appended_there s x.cuts.world m a.appends (Refuse t why) new
            | inr old ↦ subst (In (At m (Refuse t why))) (sym (runs_only_add s x.cuts.world (appending s x.cuts.world m a.appends)).log.1)
                (in_back (At m (Refuse t why)) _ x.cuts.world.log (own-log m (Refuse t why) x.cuts.world.log old))
          ])
          | inr so ↦ inr (held_so (x.cuts.copies m) why so)
        ])
    posted a suits (Prepare t) h = tt
    posted a suits (Granted n t bytes) h = tt
    posted a suits (Looked n t bytes) h = tt
    posted a suits (DecideCommit t) h = tt
    posted a suits (DecideAbort t) h = tt
    posted a suits (Done n t) h = tt
    posted a suits (Forgotten t) h = tt
    posted a suits ListKept h = tt
    posted a suits (Kept n xs) h = tt
    posted a suits (Ask t) h = tt
    posted a suits (AnswerOk n t) h = tt
    posted a suits (AnswerAbort n t) h = tt

    rest : (a : Reaction) → Suits m (held_cut (x.cuts.copies m)) (view x.cuts.world m).records a → (b : Bool)
        → AllClear s (record x.cuts { world = after_all s x.cuts.world (appending s x.cuts.world m a.appends) }) (cond b [] (map Posts a.posts))
    rest a suits true = tt
    rest a suits false = posts_clear s (record x.cuts { world = after_all s x.cuts.world (appending s x.cuts.world m a.appends) }) a.posts (posted a suits)

-- ---- the other actors

module _ (s : Setting) (x : Whole) (fit : IsFit s (state_of x)) where
  hears_clear : (o : Option Message) → ((p : Message) → o ≡ Some p → In p x.cuts.world.posted) → AllClear s x.cuts (to_coordinator s (state_of x) o).events
  hears_clear None all = tt
  hears_clear (Some (Granted m t bytes)) all =
      let c = s.coord t in
      plain_posts s x.cuts (hear_granted s (x.coordinator c) m t bytes (x.coordinator c).running).posts (λ p h.
      ((hear_granted_fine s x.cuts.world fit.sound.faithful c (x.coordinator c) (fit.coordinator c) m t bytes (x.coordinator c).running refl (inl (all (Granted m t bytes) refl))).posts p h).1.0)
  hears_clear (Some (Looked m t bytes)) all =
      let c = s.coord t in
      plain_posts s x.cuts (hear_granted s (x.coordinator c) m t bytes (x.coordinator c).running).posts (λ p h.
      ((hear_granted_fine s x.cuts.world fit.sound.faithful c (x.coordinator c) (fit.coordinator c) m t bytes (x.coordinator c).running refl (inr (all (Looked m t bytes) refl))).posts p h).1.0)
  hears_clear (Some (Refused m t why)) all =
      let c = s.coord t in
      plain_posts s x.cuts (hear_refused s (x.coordinator c) m t why (x.coordinator c).running).posts (λ p h.
      ((hear_refused_fine s x.cuts.world fit.sound.faithful c (x.coordinator c) (fit.coordinator c) m t why (x.coordinator c).running refl (all (Refused m t why) refl)).posts p h).1.0)
  hears_clear (Some (Done m t)) all =
      let c = s.coord t in
      plain_posts s x.cuts (hear_done s (x.coordinator c) m t).posts (λ p h.
      ((hear_done_fine s x.cuts.world fit.sound.faithful c (x.coordinator c) (fit.coordinator c) m t (fit.sound.faithful.promises (Done m t) (all (Done m t) refl))).posts p h).1.0)
  hears_clear (Some (Prepare t)) all = tt
  hears_clear (Some (DecideCommit t)) all = tt
  hears_clear (Some (DecideAbort t)) all = tt
  hears_clear (Some (Forgotten t)) all = tt
  hears_clear (Some ListKept) all = tt
  hears_clear (Some (Kept m xs)) all = tt
  hears_clear (Some (Ask t)) all = tt
  hears_clear (Some (AnswerOk m t)) all = tt
  hears_clear (Some (AnswerAbort m t)) all = tt

  learns_clear : (o : Option Message) → ((p : Message) → o ≡ Some p → In p x.cuts.world.posted) → AllClear s x.cuts (to_manager s (state_of x) o).events
  learns_clear None all = tt
  learns_clear (Some q) all =
      plain_posts s x.cuts (learn x.manager q).posts (λ p h.
      ((learn_fine s x.cuts.world x.manager q fit.manager (fit.sound.faithful.promises q (all q refl))).posts p h).1.0)

  posted_at : (n : ℕ) (p : Message) → numbered x.cuts.world.posted n ≡ Some p → In p x.cuts.world.posted
  posted_at n p is = numbered-In x.cuts.world.posted n p is

  pub move_clear : (input : Input) → AllClear s x.cuts (move s (state_of x) (knowing x.cuts input)).events
  move_clear (Begin t) = go (may_begin (x.coordinator (s.coord t)) t (x.coordinator (s.coord t)).running)
    where
      go : (b : Bool) → AllClear s x.cuts (cond b (acts (state_of x) (s.coord t) (Begins t ∷ []) (begin (x.coordinator (s.coord t)) t)) (idle (state_of x))).events
      go true = (tt, (tt, tt))
      go false = tt
  move_clear (ToNode n m held) = node_clear s x m false (numbered x.cuts.world.posted n)
  move_clear (ToStoppingNode n m held) = node_clear s x m true (numbered x.cuts.world.posted n)
  move_clear (ToCoordinator n) = hears_clear (numbered x.cuts.world.posted n) (posted_at n)
  move_clear (ToManager n) = learns_clear (numbered x.cuts.world.posted n) (posted_at n)
  move_clear (GiveUp c) = tt
  move_clear (Resend c) =
      plain_posts s x.cuts (resend (x.coordinator c)).posts (λ p h.
      ((resend_fine s x.cuts.world fit.sound.faithful c (x.coordinator c) (fit.coordinator c)).posts p h).1.0)
  move_clear (BootCoordinator c) = tt
  move_clear (BootNode m) = tt
  move_clear Sweep = (tt, tt)
  move_clear ResendManager = plain_posts s x.cuts (resend_manager x.manager) (λ p h. ((resend_manager_fine s x.cuts.world x.manager fit.manager).posts p h).1.0)
  move_clear BootManager = tt
