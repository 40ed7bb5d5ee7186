-- One input makes one point at most.
use Rattle.std.proofs.Common.{◌≡◌, ℕ, suc, ◌+◌, ◌≤◌, Bool, true, false, cond, ◌&&◌, ◌||◌, List, [], ◌∷◌, ◌++◌, map, length, Option, Some, None, refl, sym, ap, ◌∙◌, arith, append_assoc}
use Rattle.std.proofs.lemmas.List.{length-append}
use Rattle.tx_rules.specs.Lists.{is_in}
use Rattle.tx_rules.specs.Mini.{is_logged, has_several, Setting, nodes_of, reads_of}
use Rattle.tx_rules.specs.Decision.{Reason, Record, Grant, Refuse, Commit, Abort, Forget, At}
use Rattle.tx_rules.specs.World.{Message, Prepare, Granted, Looked, Refused, DecideCommit, DecideAbort, Done, Forgotten, ListKept, Kept, Ask, AnswerOk, AnswerAbort, World, Begins, Grants, Completes, Refuses, Commits, Aborts, Forgets, Posts, after, after_all}
use Rattle.tx_actors.specs.Node.{has_decision, Standing, Above, Same, Below, standing, is_kept, is_undecided, View, view, Reaction, silent, answers, Rule, RecordAgain, FloorAgain, BelowFloor, Against, Passes, rule_for, refuses, grants, by_rule, on_prepare, on_commit, forced, on_abort, on_forget, answers_by_floor, on_ask, handle}
use Rattle.tx_actors.specs.Coordinator.{Coordinator, hear_granted, hear_refused, hear_done, may_begin, begin, resend}
use Rattle.tx_actors.specs.Manager.{learn, resend_manager}
use Rattle.tx_actors.specs.Machine.{all_granted, appending, reacts, State, Begin, ToNode, ToStoppingNode, ToCoordinator, ToManager, GiveUp, Resend, BootCoordinator, BootNode, Sweep, ResendManager, BootManager, numbered, idle, acts, to_node, to_coordinator, to_manager, begins}
use Rattle.tx_actors.specs.Laws.{OnePointAnInput}
use Rattle.tx_actors.proofs.NodeLemmas.{after_append}

-- how many grants are among records
grants_in : List Record → ℕ
grants_in [] = 0
grants_in (Grant t ∷ rs) = suc (grants_in rs)
grants_in (Refuse t why ∷ rs) = grants_in rs
grants_in (Commit t ∷ rs) = grants_in rs
grants_in (Abort t ∷ rs) = grants_in rs
grants_in (Forget t ∷ rs) = grants_in rs

-- points that are added in front, so many at most
abbrev AddsPoints : World → World → ℕ → Type 0
AddsPoints w v n = (new : List ℕ) × (v.points ≡ new ++ w.points) × (length new ≤ n)

appending_points : (s : Setting) (w : World) (m : ℕ) (rs : List Record) → AddsPoints w (after_all s w (appending s w m rs)) (grants_in rs)
unfolding grants_in
appending_points s w m [] = ([], refl, omega arith)
appending_points s w m (Grant t ∷ rs) = go (all_granted (At m (Grant t) ∷ w.log) t (nodes_of s t)) (λ v. appending_points s v m rs)
  where
    go : (b : Bool) → ((v : World) → AddsPoints v (after_all s v (appending s v m rs)) (grants_in rs)) → AddsPoints w (after_all s (after s w (cond b (Completes m t) (Grants m t))) (appending s (after s w (cond b (Completes m t) (Grants m t))) m rs)) (suc (grants_in rs))
    go true rest =
        let it = rest (after s w (Completes m t)) in
        let few = it.2 in
        let counts : length (it.0 ++ t ∷ []) ≡ length it.0 + 1 = length-append it.0 (t ∷ []) in
        (it.0 ++ t ∷ [], it.1 ∙ sym (append_assoc it.0 (t ∷ []) w.points), omega (arith, few, counts))
    go false rest =
        let it = rest (after s w (Grants m t)) in
        let few = it.2 in
        (it.0, it.1, omega (arith, few))
appending_points s w m (Refuse t why ∷ rs) = appending_points s (after s w (Refuses m t why)) m rs
appending_points s w m (Commit t ∷ rs) = appending_points s (after s w (Commits m t)) m rs
appending_points s w m (Abort t ∷ rs) = appending_points s (after s w (Aborts m t)) m rs
appending_points s w m (Forget t ∷ rs) = appending_points s (after s w (Forgets m t)) m rs

posting_points : (s : Setting) (w : World) (ps : List Message) → (after_all s w (map Posts ps)).points ≡ w.points
posting_points s w [] = refl
posting_points s w (p ∷ ps) = posting_points s (after s w (Posts p)) ps

-- a memory node grants once at most
abbrev GrantsOnce : Reaction → Type 0
GrantsOnce a = grants_in a.appends ≤ 1

refusing_once : (s : Setting) (m t : ℕ) (why : Reason) → GrantsOnce (refuses s m t why)
unfolding grants_in
refusing_once s m t why = go (is_logged (s.mini t))
  where
    go : (b : Bool) → GrantsOnce (cond b (record { appends = Refuse t why ∷ []; posts = Refused m t why ∷ [] }) (answers (Refused m t why)))
    go true = omega arith
    go false = omega arith

granting_once : (s : Setting) (m : ℕ) (v : View) (t : ℕ) → GrantsOnce (grants s m v t)
unfolding grants_in
granting_once s m v t = go (is_logged (s.mini t)) (has_several (nodes_of s t))
  where
    go : (b c : Bool) → GrantsOnce (cond b (record { appends = Grant t ∷ cond c [] (Commit t ∷ []); posts = Granted m t (reads_of s t m v.image) ∷ [] }) (answers (Looked m t (reads_of s t m v.image))))
    go true true = omega arith
    go true false = omega arith
    go false c = omega arith

rule_once : (s : Setting) (m : ℕ) (v : View) (t : ℕ) (rule : Rule) → GrantsOnce (by_rule s m v t rule)
unfolding grants_in
rule_once s m v t RecordAgain = omega arith
rule_once s m v t (FloorAgain None) = omega arith
rule_once s m v t (FloorAgain (Some why)) = omega arith
rule_once s m v t (BelowFloor floor) = omega arith
rule_once s m v t (Against why) = refusing_once s m t why
rule_once s m v t Passes = granting_once s m v t

one_or_none : (r : Record) (b : Bool) → ((t : ℕ) → ¬ (r ≡ Grant t)) → grants_in (cond b (r ∷ []) []) ≤ 1
unfolding grants_in
one_or_none (Grant t) b plain = absurd (plain t refl)
one_or_none (Refuse t why) true plain = omega arith
one_or_none (Commit t) true plain = omega arith
one_or_none (Abort t) true plain = omega arith
one_or_none (Forget t) true plain = omega arith
one_or_none (Refuse t why) false plain = omega arith
one_or_none (Commit t) false plain = omega arith
one_or_none (Abort t) false plain = omega arith
one_or_none (Forget t) false plain = omega arith

forced_once : (t : ℕ) (x : Standing) → grants_in (forced t x) ≤ 1
unfolding grants_in
forced_once t Above = omega arith
forced_once t (Same vote) = omega arith
forced_once t (Below floor) = omega arith

abort_once : (b : Bool) (t : ℕ) (x : Standing) → grants_in (cond b (Abort t ∷ []) (forced t x)) ≤ 1
unfolding grants_in
abort_once true t x = omega arith
abort_once false t x = forced_once t x

ask_once : (b : Bool) (m t : ℕ) (x : Standing) → GrantsOnce (cond b (answers (AnswerOk m t)) (answers_by_floor m t x))
unfolding grants_in
ask_once true m t x = omega arith
ask_once false m t (Same None) = omega arith
ask_once false m t (Same (Some why)) = omega arith
ask_once false m t Above = omega arith
ask_once false m t (Below floor) = omega arith

participant_once : (b : Bool) (a : Reaction) → GrantsOnce a → GrantsOnce (cond b a silent)
unfolding grants_in
participant_once true a once = once
participant_once false a once = omega arith

handle_once : (s : Setting) (m : ℕ) (held : Option ℕ) (v : View) (p : Message) → GrantsOnce (handle s m held v p)
unfolding grants_in
handle_once s m held v (Prepare t) = participant_once (is_in m (nodes_of s t) || is_in t s.old) (on_prepare s m held v t) (rule_once s m v t (rule_for s m held v t))
handle_once s m held v (DecideCommit t) =
    participant_once (is_in m (nodes_of s t) || is_in t s.old) (on_commit m v t) (one_or_none (Commit t) (is_undecided v.records t) (λ u e. cc))
handle_once s m held v (DecideAbort t) =
    participant_once (is_in m (nodes_of s t) || is_in t s.old) (on_abort s m v t) (abort_once (is_undecided v.records t) t (standing s v.records t))
handle_once s m held v (Forgotten t) =
    participant_once (is_in m (nodes_of s t) || is_in t s.old) (on_forget s m v t)
    (one_or_none (Forget t) (is_kept s m v.records t && has_decision v.records t) (λ u e. cc))
handle_once s m held v (Ask t) =
    participant_once (is_in m (nodes_of s t) || is_in t s.old) (on_ask s m v t) (ask_once (is_kept s m v.records t) m t (standing s v.records t))
handle_once s m held v ListKept = omega arith
handle_once s m held v (Granted n t bytes) = omega arith
handle_once s m held v (Looked n t bytes) = omega arith
handle_once s m held v (Refused n t why) = omega arith
handle_once s m held v (Done n t) = omega arith
handle_once s m held v (Kept n ts) = omega arith
handle_once s m held v (AnswerOk n t) = omega arith
handle_once s m held v (AnswerAbort n t) = omega arith

reacting_points : (s : Setting) (w : World) (m : ℕ) (stops : Bool) (a : Reaction) → GrantsOnce a → AddsPoints w (after_all s w (reacts s w m stops a)) 1
reacting_points s w m stops a once =
    let it = appending_points s w m a.appends in
    let few = it.2 in
    let mid = after_all s w (appending s w m a.appends) in
    (it.0, ap (λ (x : World). x.points) (after_append s w (appending s w m a.appends) (cond stops [] (map Posts a.posts))) ∙ rest stops ∙ it.1, omega (arith, few, once))
  where
    rest : (b : Bool) → (after_all s (after_all s w (appending s w m a.appends)) (cond b [] (map Posts a.posts))).points ≡ (after_all s w (appending s w m a.appends)).points
    rest true = refl
    rest false = posting_points s (after_all s w (appending s w m a.appends)) a.posts

node_points : (s : Setting) (st : State) (m : ℕ) (held : Option ℕ) (stops : Bool) (o : Option Message) → AddsPoints st.world (after_all s st.world (to_node s st m held stops o).events) 1
node_points s st m held stops None = ([], refl, omega arith)
node_points s st m held stops (Some p) = reacting_points s st.world m stops (handle s m held (view st.world m) p) (handle_once s m held (view st.world m) p)

-- what the other actors do makes no point
no_points : (s : Setting) (w : World) (ps : List Message) → AddsPoints w (after_all s w (map Posts ps)) 1
no_points s w ps = ([], posting_points s w ps, omega arith)

hearing_points : (s : Setting) (st : State) (o : Option Message) → AddsPoints st.world (after_all s st.world (to_coordinator s st o).events) 1
hearing_points s st None = no_points s st.world []
hearing_points s st (Some (Granted m t bytes)) =
    no_points s st.world (hear_granted s (st.coordinator (s.coord t)) m t bytes (st.coordinator (s.coord t)).running).posts
hearing_points s st (Some (Looked m t bytes)) =
    no_points s st.world (hear_granted s (st.coordinator (s.coord t)) m t bytes (st.coordinator (s.coord t)).running).posts
hearing_points s st (Some (Refused m t why)) =
    no_points s st.world (hear_refused s (st.coordinator (s.coord t)) m t why (st.coordinator (s.coord t)).running).posts
hearing_points s st (Some (Done m t)) = no_points s st.world (hear_done s (st.coordinator (s.coord t)) m t).posts
hearing_points s st (Some (Prepare t)) = no_points s st.world []
hearing_points s st (Some (DecideCommit t)) = no_points s st.world []
hearing_points s st (Some (DecideAbort t)) = no_points s st.world []
hearing_points s st (Some (Forgotten t)) = no_points s st.world []
hearing_points s st (Some ListKept) = no_points s st.world []
hearing_points s st (Some (Kept m ts)) = no_points s st.world []
hearing_points s st (Some (Ask t)) = no_points s st.world []
hearing_points s st (Some (AnswerOk m t)) = no_points s st.world []
hearing_points s st (Some (AnswerAbort m t)) = no_points s st.world []

learning_points : (s : Setting) (st : State) (o : Option Message) → AddsPoints st.world (after_all s st.world (to_manager s st o).events) 1
learning_points s st None = no_points s st.world []
learning_points s st (Some p) = no_points s st.world (learn st.manager p).posts

beginning_points : (s : Setting) (st : State) (t : ℕ) (c : Coordinator) → AddsPoints st.world (after_all s st.world (begins s st t c).events) 1
beginning_points s st t c = go (may_begin c t c.running)
  where
    go : (b : Bool) → AddsPoints st.world (after_all s st.world (cond b (acts st (s.coord t) (Begins t ∷ []) (begin c t)) (idle st)).events) 1
    go true = ([], refl, omega arith)
    go false = ([], refl, omega arith)

pub one_point_an_input : OnePointAnInput
one_point_an_input s st (Begin t) = beginning_points s st t (st.coordinator (s.coord t))
one_point_an_input s st (ToNode k m held) = node_points s st m held false (numbered st.world.posted k)
one_point_an_input s st (ToStoppingNode k m held) = node_points s st m held true (numbered st.world.posted k)
one_point_an_input s st (ToCoordinator k) = hearing_points s st (numbered st.world.posted k)
one_point_an_input s st (ToManager k) = learning_points s st (numbered st.world.posted k)
one_point_an_input s st (GiveUp c) = no_points s st.world []
one_point_an_input s st (Resend c) = no_points s st.world (resend (st.coordinator c)).posts
one_point_an_input s st (BootCoordinator c) = no_points s st.world []
one_point_an_input s st (BootNode m) = no_points s st.world []
one_point_an_input s st Sweep = no_points s st.world (ListKept ∷ [])
one_point_an_input s st ResendManager = no_points s st.world (resend_manager st.manager)
one_point_an_input s st BootManager = no_points s st.world []
